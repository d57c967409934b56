-- Goals of `parse::long_length_of` that the checker doesn't prove by itself.
use Rattle.std.proofs.Common.{◌≡◌, ◌<◌, ℕ, arith, ◌-◌, ◌∷◌, get_or}
use Rattle.der_core_head.specs.declared.error.ErrorKind.TheVariants as kinds
use Rattle.der_core_head.specs.Heads.{length_at}
use Rattle.der_core_head.proofs.HeadLaws.{length_at-indefinite, length_at-large, length_at-cut}
use Rattle.der_core_octets.proofs.LongLengths.{is_fault, low-1, zero-more, long-1, long-2, long-3, long-4}
use Rattle.der_core_octets.proofs.parse.long_length_of.Goals.{then-first-eq128-via-then-first-eq128, then-first-eq128-via-else-first-eq128+then-first-gt132}
use Rattle.der_core_octets.proofs.parse.long_length_of.Goals as goal

pub returns-then-first-eq128-clause-none : goal.returns-then-first-eq128-clause-none
returns-then-first-eq128-clause-none c = λ t.
    elim c.then-first-eq128.branch [
      | then-first-eq128-via-then-first-eq128 w ↦ let first : c.args.first ≡ 128 = omega arith in
          is_fault (length_at t (c.args.first ∷ c.args.rest.now)) kinds.IndefiniteLength (rw first (length_at-indefinite t c.args.rest.now))
      | then-first-eq128-via-else-first-eq128+then-first-gt132 w ↦ is_fault _ _ (length_at-large t c.args.first c.args.rest.now (omega arith))
    ]

pub returns-then-rest-count-clause-none : goal.returns-then-rest-count-clause-none
returns-then-rest-count-clause-none c = λ t. is_fault _ _ (length_at-cut t c.args.first c.args.rest.now (omega arith) (omega arith) (omega arith))

pub returns-then-value-lt128-clause-none : goal.returns-then-value-lt128-clause-none
returns-then-value-lt128-clause-none c = λ t. is_fault _ _ (low-1 t c.args.first c.args.rest.now (omega arith) (omega arith) (omega arith))

pub returns-then-count-eq1-clause-some : goal.returns-then-count-eq1-clause-some
returns-then-count-eq1-clause-some c = λ t.
    let octets : (i : ℕ) → get_or c.args.rest.now i 0 < 256 = λ i. omega (arith, c.type_inv.rest i) in
    let count : c.args.first - 128 ≡ 1 = omega arith in
    rw count (long-1 t c.args.first c.args.rest.now _ (omega arith) (omega arith) octets (omega arith) (omega arith))

pub returns-then-value-eq0-clause-none : goal.returns-then-value-eq0-clause-none
returns-then-value-eq0-clause-none c = λ t.
    let octets : (i : ℕ) → get_or c.args.rest.now i 0 < 256 = λ i. omega (arith, c.type_inv.rest i) in
    is_fault _ _ (zero-more t c.args.first c.args.rest.now (omega arith) (omega arith) (omega arith) octets (omega arith))

pub returns-then-count-eq2-clause-some : goal.returns-then-count-eq2-clause-some
returns-then-count-eq2-clause-some c = λ t.
    let octets : (i : ℕ) → get_or c.args.rest.now i 0 < 256 = λ i. omega (arith, c.type_inv.rest i) in
    let count : c.args.first - 128 ≡ 2 = omega arith in
    rw count (long-2 t c.args.first c.args.rest.now _ (omega arith) (omega arith) octets (omega arith) (omega arith))

pub returns-then-count-eq3-clause-some : goal.returns-then-count-eq3-clause-some
returns-then-count-eq3-clause-some c = λ t.
    let octets : (i : ℕ) → get_or c.args.rest.now i 0 < 256 = λ i. omega (arith, c.type_inv.rest i) in
    let count : c.args.first - 128 ≡ 3 = omega arith in
    rw count (long-3 t c.args.first c.args.rest.now _ (omega arith) (omega arith) octets (omega arith) (omega arith))

pub returns-clause-some : goal.returns-clause-some
returns-clause-some c = λ t.
    let octets : (i : ℕ) → get_or c.args.rest.now i 0 < 256 = λ i. omega (arith, c.type_inv.rest i) in
    let count : c.args.first - 128 ≡ 4 = omega arith in
    rw count (long-4 t c.args.first c.args.rest.now _ (omega arith) (omega arith) octets (omega arith) (omega arith))
