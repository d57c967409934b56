-- Goals of `extensions::first_twin_of_many` that the checker doesn't prove by itself.
use Rattle.std.proofs.Common.{◌≡◌, ◌+◌, ◌-◌, ◌<◌, not, true, false, length, arith, sym, ap, ◌∙◌}
use Rattle.cert_desk_bundle.specs.CertParts.Views.{extension_plain, extensions_plain}
use Rattle.cert_desk_rules.proofs.ExtensionLaws.{distinct_here, firsts-more, set_here, some-by, twin_is}
use Rattle.cert_desk_rules.proofs.extensions.first_twin_of_many.Goals as goal

pub loop-place-preserved-then-not-branch : goal.loop-place-preserved-then-not-branch
loop-place-preserved-then-not-branch c =
    let xs = c.args.extensions.now in
    let n = c.loop-place.place in
    let x = c.index-extensions-place.result in
    let next : n ≡ n - 1 + 1 = omega (arith, c.loop-place-test.true) in
    let lt : n - 1 < length xs = omega (arith, c.loop-place-test.true, c.loop-place.auto.place) in
    let had = c.loop-place.invariant.4 in
    let alone = sym c.if-not-branch.true ∙ c.in_ok-insert.ensures.added ∙ ap not (had _) in (
      sym (distinct_here extension_plain xs (n - 1) n next x lt false alone),
      lt,
      twin_is extension_plain xs (n - 1) n x next lt ∙ ap not (sym alone),
      (λ other above below. absurd (omega (arith, above, below))),
      set_here extension_plain xs (n - 1) n next x lt c.loop-place.behind c.insert.new.self c.in_ok-insert.ensures.updates had,
    )

pub loop-place-preserved : goal.loop-place-preserved
loop-place-preserved c =
    let xs = c.args.extensions.now in
    let n = c.loop-place.place in
    let x = c.index-extensions-place.result in
    let next : n ≡ n - 1 + 1 = omega (arith, c.loop-place-test.true) in
    let lt : n - 1 < length xs = omega (arith, c.loop-place-test.true, c.loop-place.auto.place) in
    let had = c.loop-place.invariant.4 in
    let alone = sym c.if-not-branch.false ∙ c.in_ok-insert.ensures.added ∙ ap not (had _) in (
      c.loop-place.invariant.0 ∙ sym (distinct_here extension_plain xs (n - 1) n next x lt true alone),
      c.loop-place.invariant.1,
      c.loop-place.invariant.2,
      firsts-more _ (extensions_plain xs) n c.loop-place-test.true (twin_is extension_plain xs (n - 1) n x next lt ∙ ap not (sym alone)) c.loop-place.invariant.3,
      set_here extension_plain xs (n - 1) n next x lt c.loop-place.behind c.insert.new.self c.in_ok-insert.ensures.updates had,
    )

pub returns-clause-first : goal.returns-clause-first
returns-clause-first c = some-by c.loop-place.twin c.loop-place.invariant.3 (λ place h other lt. h other (omega (arith, c.loop-place-test.false)) lt)
