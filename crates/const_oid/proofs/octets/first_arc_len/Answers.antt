-- Goals of `octets::first_arc_len` that the checker doesn't prove by itself.
use Rattle.std.proofs.Common.{ℕ, ◌+◌, ◌*◌, ◌%◌, ◌<◌, inl, inr, get_or, refl, sym, ◌∙◌, arith}
use Rattle.std.proofs.lemmas.Bool.{cases_lt}
use Rattle.std.proofs.lemmas.List.{take_more}
use Rattle.const_oid.proofs.BoundLaws.{Bound-is}
use Rattle.const_oid.proofs.EncodingLaws.{arc_octets-one}
use Rattle.const_oid.proofs.LongArcLaws.{IsMost, inside_first, inside_ends, inside_goes, inside_past}
use Rattle.const_oid.proofs.octets.first_arc_len.Goals.{then-first-gt131, else-first-gt131}
use Rattle.const_oid.proofs.octets.first_arc_len.Goals as goal

pub returns-then-first-lt128 : goal.returns-then-first-lt128
returns-then-first-lt128 c =
    let w = c.args.octets.now in
    let low = c.if-first-lt128.true in
    (c.requires, (get_or w 0 0, omega (arith, low, Bound-is), take_more w 0 0 c.requires ∙ sym (arc_octets-one (get_or w 0 0) low)))

most_of : (first : ℕ) → (most : ℕ) × IsMost first most × (2 < most)
most_of first = elim (cases_lt 131 first) [
  | inl l ↦ (18, inl (l, refl), omega arith)
  | inr l ↦ (19, inr (l, refl), omega arith)
]

pub returns-then-octets-lt128 : goal.returns-then-octets-lt128
returns-then-octets-lt128 c =
    let w = c.args.octets.now in
    let m = most_of (get_or w 0 0) in
    let first = inside_first w c.requires c.if-first-lt128.false c.if-first.false (omega (arith, c.type_inv.octets 0)) in
    (omega arith, inside_ends w 1 _ m.0 first (omega arith) (omega arith) m.1 (omega (arith, m.2)) c.if-octets-lt128.true)

pub returns-then-octets-lt128-2 : goal.returns-then-octets-lt128-2
returns-then-octets-lt128-2 c =
    let w = c.args.octets.now in
    let m = most_of (get_or w 0 0) in
    let first = inside_first w c.requires c.if-first-lt128.false c.if-first.false (omega (arith, c.type_inv.octets 0)) in
    let second = inside_goes w 1 _ m.0 first (omega arith) (omega arith) m.1 (omega (arith, m.2)) c.if-octets-lt128.false (omega (arith, c.type_inv.octets 1)) in
    (omega arith, inside_ends w 2 _ m.0 second (omega arith) (omega arith) m.1 (omega (arith, m.2)) c.if-octets-lt128-2.true)

pub loop-i-init : goal.loop-i-init
loop-i-init c =
    let w = c.args.octets.now in
    let most : IsMost (get_or w 0 0) c.if-first-gt131.most =
    elim c.if-first-gt131.branch [
      | then-first-gt131 b ↦ inl (b.if-first-gt131.true, b.most-is)
      | else-first-gt131 b ↦ inr (b.if-first-gt131.false, b.most-is)
    ] in
    (most, (0 * 128 + get_or w 0 0 % 128, inside_first w c.requires c.if-first-lt128.false c.if-first.false (omega (arith, c.type_inv.octets 0))))

pub returns-then-i-most : goal.returns-then-i-most
returns-then-i-most c =
    let held = c.loop-i.invariant in
    inside_past c.args.octets.now c.loop-i.i held.1.0 c.if-first-gt131.most held.1.1 (omega arith) c.loop-i-test.true held.0 c.if-i-most.true

pub returns-then-octets-i-lt128 : goal.returns-then-octets-i-lt128
returns-then-octets-i-lt128 c =
    let held = c.loop-i.invariant in
    let most = c.if-first-gt131.most in
    (omega arith, inside_ends c.args.octets.now c.loop-i.i held.1.0 most held.1.1 (omega arith) c.loop-i-test.true held.0 c.if-i-most.false c.if-octets-i-lt128.true)

pub loop-i-preserved : goal.loop-i-preserved
loop-i-preserved c =
    let w = c.args.octets.now in
    let i = c.loop-i.i in
    let held = c.loop-i.invariant in
    let most = c.if-first-gt131.most in
    let octet : get_or w i 0 < 256 = omega (arith, c.type_inv.octets i) in
    (held.0, (held.1.0 * 128 + get_or w i 0 % 128, inside_goes w i held.1.0 most held.1.1 (omega arith) c.loop-i-test.true held.0 c.if-i-most.false c.if-octets-i-lt128.false octet))
