-- The loop invariant of `hash_function::first_named`: the hash functions so far have other OIDs.
use Rattle.std.proofs.Common.{◌≡◌, drop, find}
use Rattle.der_core.specs.Oid.Comparing.{owned_eq}
use Rattle.pki_status.specs.Hashes.{arcs_of}
use Rattle.pki_status.proofs.hash_function.first_named.Given as goal

abbrev pub invariant-loop-function : goal.invariant-loop-function
invariant-loop-function l = find (λ f. owned_eq (arcs_of f) l.oid) (drop l.function-index l.functions) ≡ find (λ f. owned_eq (arcs_of f) l.oid) l.functions
