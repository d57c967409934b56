-- Goals of `reasons::extension_against` that the checker doesn't prove by itself.
use Rattle.std.proofs.Common.{ap, refl, sym, ◌∙◌, arith}
use Rattle.x509_cert_anchors.specs.Oid.Bound.{Bound}
use Rattle.x509_cert_anchors.specs.CertParts.Views.{extension_plain, extensions_plain}
use Rattle.cert_desk_rules.specs.Findings.{found}
use Rattle.cert_desk_rules.specs.Reasons.{goes_against, is_against, is_at}
use Rattle.cert_desk_rules.specs.Weighing.{may_take_memory}
use Rattle.cert_desk_rules.proofs.ExtensionLaws.{none-more}
use Rattle.cert_desk_rules.proofs.MemoryLaws.{alone_takes, one_takes}
use Rattle.cert_desk_rules.proofs.DeskIo.Given.{OnErr-by}
use Rattle.cert_desk_checking.proofs.ReasonLaws.{against_alone, any-at, any-more, at-plain}
use Rattle.cert_desk_checking.proofs.reasons.extension_against.Goals as goal

pub returns-then-goes_against-clause-told : goal.returns-then-goes_against-clause-told
returns-then-goes_against-clause-told c =
    let x = c.index-extensions-number.result in
    let alone = c.in_ok-findings.ensures.found ∙ ap (λ es. found Bound c.args.purpose.now (extensions_plain es)) c.from_ref.ensures.value in
    let against = ap (λ f. goes_against f c.args.rule) (sym alone) in
    let here = at-plain extension_plain (is_against Bound c.args.purpose.now c.args.rule) c.args.extensions.now c.loop-number.number x (omega arith) c.index-extensions-number.is
    ∙ sym (against_alone Bound c.args.purpose.now c.args.rule (extension_plain x)) ∙ against ∙ sym c.goes_against.ensures ∙ c.if-goes_against.true in
    sym (any-at (is_against Bound c.args.purpose.now c.args.rule) (extensions_plain c.args.extensions.now) c.loop-number.number here)

pub returns-then-goes_against-clause-first : goal.returns-then-goes_against-clause-first
returns-then-goes_against-clause-first c =
    let x = c.index-extensions-number.result in
    let alone = c.in_ok-findings.ensures.found ∙ ap (λ es. found Bound c.args.purpose.now (extensions_plain es)) c.from_ref.ensures.value in
    let against = ap (λ f. goes_against f c.args.rule) (sym alone) in
    let here = at-plain extension_plain (is_against Bound c.args.purpose.now c.args.rule) c.args.extensions.now c.loop-number.number x (omega arith) c.index-extensions-number.is
    ∙ sym (against_alone Bound c.args.purpose.now c.args.rule (extension_plain x)) ∙ against ∙ sym c.goes_against.ensures ∙ c.if-goes_against.true in
    (c.loop-number.number, refl, (here, c.loop-number.invariant.none))

pub loop-number-preserved : goal.loop-number-preserved
loop-number-preserved c =
    let x = c.index-extensions-number.result in
    let test = is_against Bound c.args.purpose.now c.args.rule in
    let alone = c.in_ok-findings.ensures.found ∙ ap (λ es. found Bound c.args.purpose.now (extensions_plain es)) c.from_ref.ensures.value in
    let against = ap (λ f. goes_against f c.args.rule) (sym alone) in
    let fails = sym (against_alone Bound c.args.purpose.now c.args.rule (extension_plain x)) ∙ against ∙ sym c.goes_against.ensures ∙ c.if-goes_against.false in
    record {
      none = none-more (is_at test (extensions_plain c.args.extensions.now)) c.loop-number.number c.loop-number.invariant.none
          (at-plain extension_plain test c.args.extensions.now c.loop-number.number x (omega arith) c.index-extensions-number.is ∙ fails);
      rest = any-more extension_plain test c.args.extensions.now c.loop-number.number x (omega arith) c.index-extensions-number.is fails ∙ c.loop-number.invariant.rest;
    }

pub returns-in_err-findings-clause-memory : goal.returns-in_err-findings-clause-memory
returns-in_err-findings-clause-memory c =
    let x = c.index-extensions-number.result in
    let alone = ap (λ es. may_take_memory (extensions_plain es)) (sym c.from_ref.ensures.value) ∙ c.in_err-findings.ensures.memory in
    OnErr-by _ _ (one_takes extension_plain c.args.extensions.now c.loop-number.number x (omega arith) c.index-extensions-number.is (alone_takes (extension_plain x) alone))
