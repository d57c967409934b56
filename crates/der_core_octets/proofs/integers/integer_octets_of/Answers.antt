-- Goals of `integers::integer_octets_of` that the checker doesn't prove by itself.
use Rattle.std.proofs.Common.{◌≡◌, ◌+◌, ◌-◌, ◌/◌, ◌<◌, ◌++◌, ◌∷◌, List, ℕ, length, drop, ap, ◌∙◌, arith, slice_set}
use Rattle.std.proofs.lemmas.List.{drop-set, length-set}
use Rattle.der_core_head.specs.Oid.Digits.{digits}
use Rattle.der_core_octets.specs.Numbers.{turn, turned}
use Rattle.der_core_octets.proofs.Magnitudes.{turned_digits-more, place_left, place_some, small_next, integer_low, integer_high}
use Rattle.der_core_octets.proofs.integers.integer_octets_of.Goals as goal

pub loop-left-preserved : goal.loop-left-preserved
loop-left-preserved c =
    let at = c.loop-left.at in
    let left = c.loop-left.left in
    let some : 0 < at = place_left left at c.loop-left-test.true c.loop-left.invariant.small in
    let place : at - 1 + 1 ≡ at = omega arith in
    let inside : at < length c.loop-left.octets = omega (arith, c.loop-left.invariant.size, c.loop-left.invariant.at) in
    let written = drop-set c.loop-left.octets at c.turn.result inside in
    let digits_left = turned_digits-more c.args.negative left (drop (at + 1) c.loop-left.octets) c.loop-left-test.true in
    record {
      size = length-set c.loop-left.octets at c.turn.result ∙ c.loop-left.invariant.size;
      at = omega arith;
      small = small_next left at c.loop-left-test.true c.loop-left.invariant.small;
      octets = ap (λ (i : ℕ). turned c.args.negative (digits 256 (left / 256)) ++ drop i (slice_set c.loop-left.octets at c.turn.result)) place
          ∙ ap (λ (u : List ℕ). turned c.args.negative (digits 256 (left / 256)) ++ u) (written ∙ ap (λ d. d ∷ drop (at + 1) c.loop-left.octets) c.turn.ensures)
          ∙ digits_left ∙ c.loop-left.invariant.octets;
    }

pub returns-then-left-ge128-clause-octets : goal.returns-then-left-ge128-clause-octets
returns-then-left-ge128-clause-octets c =
    let at = c.loop-left.at in
    let left = c.loop-left.left in
    let once = slice_set c.loop-left.octets at c.turn-2.result in
    let some : 0 < at = place_some left at c.if-left-ge128.true c.loop-left.invariant.small in
    let place : at - 1 + 1 ≡ at = omega arith in
    let inside : at < length c.loop-left.octets = omega (arith, c.loop-left.invariant.size, c.loop-left.invariant.at) in
    let before : at - 1 < length once = omega (arith, inside, length-set c.loop-left.octets at c.turn-2.result) in
    let first = drop-set c.loop-left.octets at c.turn-2.result inside ∙ ap (λ d. d ∷ drop (at + 1) c.loop-left.octets) c.turn-2.ensures in
    drop-set once (at - 1) c.turn-then-left-ge128.result before
    ∙ ap (λ d. d ∷ drop (at - 1 + 1) once) c.turn-then-left-ge128.ensures
    ∙ ap (λ (i : ℕ). turn c.args.negative 0 ∷ drop i once) place
    ∙ ap (λ (u : List ℕ). turn c.args.negative 0 ∷ u) first
    ∙ integer_high c.args.negative c.args.number left (drop (at + 1) c.loop-left.octets) c.if-left-ge128.true c.loop-left-test.false c.loop-left.invariant.octets

pub returns-else-left-ge128-clause-octets : goal.returns-else-left-ge128-clause-octets
returns-else-left-ge128-clause-octets c =
    let at = c.loop-left.at in
    let left = c.loop-left.left in
    let inside : at < length c.loop-left.octets = omega (arith, c.loop-left.invariant.size, c.loop-left.invariant.at) in
    drop-set c.loop-left.octets at c.turn-2.result inside ∙ ap (λ d. d ∷ drop (at + 1) c.loop-left.octets) c.turn-2.ensures
    ∙ integer_low c.args.negative c.args.number left (drop (at + 1) c.loop-left.octets) (omega arith) c.loop-left.invariant.octets
