-- Goals of `uint_ref::UintRef::of_content` that the checker doesn't prove by itself.
use Rattle.std.proofs.Common.{◌<◌, length, sym, ◌∙◌, arith}
use Rattle.std.proofs.lemmas.Bool.{eqb-false}
use Rattle.der_types_numbers.proofs.Naturals.{natural_content}
use Rattle.der_types_numbers.proofs.uint_ref.UintRef.of_content.Goals as goal

pub trusted-requires-clause-short : goal.trusted-requires-clause-short
trusted-requires-clause-short c =
    let some : 0 < length c.args.octets.now = let none = eqb-false (length c.args.octets.now) 0 (sym c.is_empty.ensures ∙ c.if-is_empty.false) in omega arith in
    rw (
      c.fewest_unsigned.ensures.number,
      natural_content c.args.octets.now (λ i. omega (arith, c.type_inv.octets i)) some (sym c.has_redundant_octet.ensures ∙ c.if-has_redundant_octet.false) (sym c.begins_with_one_bit.ensures ∙ c.if-begins_with_one_bit.false),
    )
    c.requires
