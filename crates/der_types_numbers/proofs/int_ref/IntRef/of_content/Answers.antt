-- Goals of `int_ref::IntRef::of_content` that the checker doesn't prove by itself.
use Rattle.std.proofs.Common.{◌<◌, length, sym, ◌∙◌, arith}
use Rattle.der_core.proofs.IntegerLaws.{integer_octets-of}
use Rattle.std.proofs.lemmas.Bool.{eqb-false}
use Rattle.der_types_numbers.proofs.int_ref.IntRef.of_content.Goals as goal

pub invariant_of-result-clause-content : goal.invariant_of-result-clause-content
invariant_of-result-clause-content c =
    let some : 0 < length c.args.octets.now = let none = eqb-false (length c.args.octets.now) 0 (sym c.is_empty.ensures ∙ c.if-is_empty.false) in omega arith in
    sym (integer_octets-of c.args.octets.now (λ i. omega (arith, c.type_inv.octets i)) some (sym c.has_redundant_octet.ensures ∙ c.if-has_redundant_octet.false))
