-- Goals of `hash_function::first_named`: the hash function at the index has the OID, or another one.
use Rattle.std.proofs.Common.{sym, ap, ◌∙◌}
use Rattle.der_core.specs.Oid.Comparing.{owned_eq}
use Rattle.pki_status.specs.declared.hash_function.HashFunction.{HashFunction}
use Rattle.pki_status.specs.declared.hash_function.HashFunction.TheVariants as functions
use Rattle.pki_status.specs.Hashes.{arcs_of}
use Rattle.pki_status.proofs.FindSteps.{found_here, found_later}
use Rattle.pki_status.proofs.hash_function.first_named.Goals as goal

pub returns-then-eq : goal.returns-then-eq
returns-then-eq c =
    let p = λ (f : HashFunction). owned_eq (arcs_of f) c.args.oid.now in
    let passes = ap (λ a. owned_eq a c.args.oid.now) (sym c.oid.ensures) ∙ sym c.eq.ensures ∙ c.if-eq.true in
    sym (found_here p c.args.functions.now c.loop-function.function-index functions.Sha1 c.loop-function-test.true passes) ∙ c.loop-function.invariant

pub loop-function-preserved : goal.loop-function-preserved
loop-function-preserved c =
    let p = λ (f : HashFunction). owned_eq (arcs_of f) c.args.oid.now in
    let fails = ap (λ a. owned_eq a c.args.oid.now) (sym c.oid.ensures) ∙ sym c.eq.ensures ∙ c.if-eq.false in
    found_later p c.args.functions.now c.loop-function.function-index functions.Sha1 c.loop-function-test.true fails ∙ c.loop-function.invariant
