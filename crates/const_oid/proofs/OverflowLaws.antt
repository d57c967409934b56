-- Lemmas: no function returns `Overflow`.
use Rattle.std.proofs.Common.{◌≢◌, ℕ, ◌+◌, ◌*◌, ◌%◌, List, [], ◌∷◌, Err, refl, arith}
use Rattle.std.proofs.lemmas.Bool.Decides.{nat_tests}
use Rattle.const_oid.specs.declared.error.Error.TheVariants as errors
use Rattle.const_oid.specs.IdentifierOctets.{read_arcs, read_identifier}
use Rattle.const_oid.specs.ArcLists.{gather}
use Rattle.const_oid.specs.TextReading.{read_text}
use Rattle.const_oid.proofs.ArcFaultLaws.{arc_fault_found, arc_fault-not_overflow}
use Rattle.const_oid.proofs.TextFaultLaws.{text_fault_found, text_fault-not_overflow}

read_arcs-not_overflow : (bound value : ℕ) (w : List ℕ) → read_arcs bound value w ≢ Err errors.Overflow
read_arcs-not_overflow bound value [] h = grind (arith, nat_tests)
read_arcs-not_overflow bound value (o ∷ w) h = grind (arith, nat_tests, read_arcs-not_overflow bound 0 w, read_arcs-not_overflow bound (value * 128 + o % 128) w)

pub octets_not_overflow : (bound capacity : ℕ) (w : List ℕ) → read_identifier bound capacity w ≢ Err errors.Overflow
octets_not_overflow bound capacity [] h = cc
octets_not_overflow bound capacity (r ∷ w) h = grind (arith, nat_tests, read_arcs-not_overflow bound 0 w)

pub text_not_overflow : (bound capacity : ℕ) (w : List ℕ) → read_text bound capacity w ≢ Err errors.Overflow
text_not_overflow bound capacity w h = text_fault-not_overflow bound capacity w errors.Overflow (text_fault_found bound capacity w errors.Overflow h) refl

pub arcs_not_overflow : (capacity : ℕ) (arcs : List ℕ) → gather capacity [] arcs ≢ Err errors.Overflow
arcs_not_overflow capacity arcs h = arc_fault-not_overflow capacity arcs errors.Overflow (arc_fault_found capacity arcs errors.Overflow h) refl
