-- Goals of `extensions::first_twin_of_few` that the checker doesn't prove by itself.
use Rattle.std.proofs.Common.{◌≡◌, ◌<◌, ◌+◌, ◌∙◌, length, true, false, not, refl, sym, ap, arith}
use Rattle.cert_desk_bundle.specs.CertParts.Views.{extension_plain, extensions_plain}
use Rattle.cert_desk_rules.specs.Judging.{has_twin}
use Rattle.cert_desk_rules.proofs.ExtensionLaws.{distinct_here, none-more, twin_at, twin_is}
use Rattle.cert_desk_rules.proofs.Folds.{not_twice}
use Rattle.cert_desk_rules.proofs.extensions.first_twin_of_few.Goals as goal

pub returns-then-not-is_alone-clause-twin : goal.returns-then-not-is_alone-clause-twin
returns-then-not-is_alone-clause-twin c =
    twin_at extension_plain c.args.extensions.now c.loop-place.place c.index-extensions-place.result (omega (arith, c.loop-place-test.true)) c.index-extensions-place.is
    ∙ ap not (sym c.if-not-is_alone.ensures)

pub returns-then-not-is_alone-clause-first : goal.returns-then-not-is_alone-clause-first
returns-then-not-is_alone-clause-first c = c.loop-place.invariant.none

pub loop-place-preserved : goal.loop-place-preserved
loop-place-preserved c =
    let xs = c.args.extensions.now in
    let place = c.loop-place.place in
    let x = c.index-extensions-place.result in
    let lt : place < length xs = omega (arith, c.loop-place-test.true) in
    let none : has_twin (extensions_plain xs) place ≡ false = twin_at extension_plain xs place x lt c.index-extensions-place.is ∙ ap not (sym c.if-not-is_alone.ensures) in
    let alone = not_twice _ ∙ ap not (sym (twin_is extension_plain xs place (place + 1) x refl lt) ∙ none) in
    record {
      none = none-more (has_twin (extensions_plain xs)) place c.loop-place.invariant.none none;
      rest = sym (distinct_here extension_plain xs place (place + 1) refl x lt true (sym alone)) ∙ c.loop-place.invariant.rest;
    }
