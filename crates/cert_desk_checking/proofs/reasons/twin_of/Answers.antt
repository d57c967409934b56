-- Goals of `reasons::twin_of` that the checker doesn't prove by itself.
use Rattle.std.proofs.Common.{◌≡◌, ◌<◌, ◌∙◌, length, false, not, sym, ap, arith}
use Rattle.x509_cert_anchors.specs.CertParts.Views.{extension_plain, extensions_plain}
use Rattle.cert_desk_rules.specs.Reasons.{have_one_identifier, is_at}
use Rattle.cert_desk_rules.proofs.ExtensionLaws.{none-more}
use Rattle.cert_desk_checking.proofs.ReasonLaws.{any-more, at-plain}
use Rattle.cert_desk_checking.proofs.reasons.twin_of.Goals as goal

pub loop-number-preserved : goal.loop-number-preserved
loop-number-preserved c =
    let xs = c.args.others.now in
    let test = have_one_identifier (extension_plain c.args.extension.now) in
    let number = c.loop-number.number in
    let x = c.index-others-number.result in
    let lt : number < length xs = omega (arith, c.loop-number-test.true) in
    let fails : have_one_identifier (extension_plain c.args.extension.now) (extension_plain x) ≡ false =
    ap (λ y. have_one_identifier (extension_plain c.args.extension.now) (extension_plain y)) c.index-others-number.is ∙ sym c.eq.ensures ∙ c.if-eq.false in
    record {
      none = none-more (is_at test (extensions_plain xs)) number c.loop-number.invariant.none (at-plain extension_plain test xs number x lt c.index-others-number.is ∙ fails);
      rest = ap not (any-more extension_plain test xs number x lt c.index-others-number.is fails) ∙ c.loop-number.invariant.rest;
    }
