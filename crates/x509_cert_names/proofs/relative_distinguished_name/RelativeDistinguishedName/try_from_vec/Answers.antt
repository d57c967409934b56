-- Goals of `relative_distinguished_name::RelativeDistinguishedName::try_from_vec` that the checker
-- doesn't prove by itself.
use Rattle.std.proofs.Common.{◌≡◌, List, true, inl, sym, subst}
use Rattle.std.proofs.lemmas.Map.Keys.{IsDistinct-IsPermutation}
use Rattle.der_core.specs.Oid.Bound.{Bound}
use Rattle.der_core.specs.Placed.{AllValid}
use Rattle.der_types.specs.Sets.{Ascends}
use Rattle.x509_cert_names.specs.Names.{type_and_value}
use Rattle.x509_cert_names.specs.Ordered.{DifferInTurn, IsOrdered}
use Rattle.x509_cert_names.specs.Pairs.{pair_plain, same_pair, same_pair_equiv}
use Rattle.x509_cert_names.specs.declared.attribute_type_and_value.AttributeTypeAndValue.{AttributeTypeAndValue}
use Rattle.x509_cert_names.proofs.SameOctets.{differ_distinct, distinct_differ}
use Rattle.x509_cert_names.proofs.relative_distinguished_name.RelativeDistinguishedName.try_from_vec.Goals as goal

ordered : (xs ys zs : List AttributeTypeAndValue) → ys ≡ xs → zs ≡ xs → AllValid (type_and_value Bound) pair_plain ys → Ascends (type_and_value Bound) pair_plain xs → DifferInTurn zs
    → IsOrdered Bound xs
ordered xs ys zs e f valid ascend differ =
    let P : List AttributeTypeAndValue → Type 0 = λ ws. AllValid (type_and_value Bound) pair_plain ws in
    (differ_distinct xs (subst P e valid) ascend (subst DifferInTurn f differ), ascend)

pub returns-then-not-are_apart-clause-refused : goal.returns-then-not-are_apart-clause-refused
returns-then-not-are_apart-clause-refused c =
    inl (
      search,
      λ d.
          let k = IsDistinct-IsPermutation same_pair same_pair_equiv.symm c.args.attributes.items c.in_ok-values.values.items c.in_ok-values.ensures.same d in
          let t : c.are_apart.result ≡ true = c.are_apart.ensures.1 (subst DifferInTurn (sym c.as_slice-2.ensures.value) (distinct_differ c.in_ok-values.values.items k)) in
          let f = c.if-not-are_apart.true in
          absurd cc,
    )

pub invariant_of-result : goal.invariant_of-result
invariant_of-result c =
    rw c.of.ensures
    (ordered c.in_ok-values.values.items c.as_slice.result.now c.as_slice-2.result.now c.as_slice.ensures.value c.as_slice-2.ensures.value c.in_ok-have_encodings.ensures.ok
    c.in_ok-values.ensures.ascend (c.are_apart.ensures.0 c.if-not-are_apart.false))

pub returns-clause-ordered : goal.returns-clause-ordered
returns-clause-ordered c =
    rw c.of.ensures
    (ordered c.in_ok-values.values.items c.as_slice.result.now c.as_slice-2.result.now c.as_slice.ensures.value c.as_slice-2.ensures.value c.in_ok-have_encodings.ensures.ok
    c.in_ok-values.ensures.ascend (c.are_apart.ensures.0 c.if-not-are_apart.false))
