-- Goals of `arcs::first_arc` that the checker doesn't prove by itself.
use Rattle.std.proofs.Common.{◌≡◌, ◌+◌, ◌*◌, ◌<◌, drop, ℕ, zero, suc, ◌∷◌, refl, ap, sym, ◌∙◌, arith}
use Rattle.std.specs.Result.{is_ok}
use Rattle.const_oid.specs.Bound.{Bound}
use Rattle.const_oid.specs.IdentifierOctets.{read_arcs}
use Rattle.const_oid.specs.Arcs.{later_arcs}
use Rattle.const_oid.proofs.BoundLaws.{fits_type}
use Rattle.std.proofs.lemmas.List.{drop_all}
use Rattle.const_oid.proofs.ArcsLaws.{octet_at, whole_end}
use Rattle.const_oid.proofs.arcs.first_arc.Goals as goal

pub overflow_mul-value : goal.overflow_mul-value
overflow_mul-value c =
    let at = octet_at Bound c.loop-i.value c.loop-i.i c.args.octets.now (λ i. omega (arith, c.type_inv.octets i)) c.loop-i-test.true c.loop-i.invariant.1 in
    omega (arith, fits_type _ at.1.fits)

pub overflow_add-value : goal.overflow_add-value
overflow_add-value c =
    let at = octet_at Bound c.loop-i.value c.loop-i.i c.args.octets.now (λ i. omega (arith, c.type_inv.octets i)) c.loop-i-test.true c.loop-i.invariant.1 in
    omega (arith, fits_type _ at.1.fits, c.from.ensures)

pub returns-then-octet-lt128 : goal.returns-then-octet-lt128
returns-then-octet-lt128 c =
    let at = octet_at Bound c.loop-i.value c.loop-i.i c.args.octets.now (λ i. omega (arith, c.type_inv.octets i)) c.loop-i-test.true c.loop-i.invariant.1 in
    let ends = at.1.ends c.if-octet-lt128.true in (
      c.loop-i.invariant.0
          ∙ ap (later_arcs c.loop-i.value) at.0
          ∙ ends.0
          ∙ ap (λ n. (c.loop-i.value * 128 + n) ∷ later_arcs 0 (drop (c.loop-i.i + 1) c.args.octets.now)) (sym c.from.ensures)
          ∙ ap (λ t. (c.loop-i.value * 128 + c.from.result) ∷ later_arcs 0 t) (sym c.split_at.ensures.back),
      ap (λ t. is_ok (read_arcs Bound 0 t)) c.split_at.ensures.back ∙ ends.1,
    )

pub loop-i-preserved : goal.loop-i-preserved
loop-i-preserved c =
    let at = octet_at Bound c.loop-i.value c.loop-i.i c.args.octets.now (λ i. omega (arith, c.type_inv.octets i)) c.loop-i-test.true c.loop-i.invariant.1 in
    let goes = at.1.goes c.if-octet-lt128.false in
    rw c.from.ensures (c.loop-i.invariant.0 ∙ ap (later_arcs c.loop-i.value) at.0 ∙ goes.0, goes.1, λ _. goes.2)

pub returns : goal.returns
returns c =
    let w = c.args.octets.now in
    let past = drop_all c.loop-i.i w c.loop-i-test.false in
    let none : c.loop-i.value ≡ 0 = whole_end Bound c.loop-i.value (sym (ap (λ t. is_ok (read_arcs Bound c.loop-i.value t)) past) ∙ c.loop-i.invariant.1) in
    let first : c.loop-i.i ≡ 0 = at_start c.loop-i.i c.loop-i.value none c.loop-i.invariant.2 in
    ap (λ i. drop i w) (sym first) ∙ past
  where
    at_start : (i value : ℕ) → value ≡ 0 → (0 < i → 0 < value) → i ≡ 0
    at_start zero value e h = refl
    at_start (suc i) value e h = absurd (omega (arith, h (omega arith)))
