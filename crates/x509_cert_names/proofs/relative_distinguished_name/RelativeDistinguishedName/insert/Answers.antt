-- Goals of `relative_distinguished_name::RelativeDistinguishedName::insert` that the checker
-- doesn't prove by itself.
use Rattle.std.proofs.Common.{◌≡◌, List, true, false, inl, sym, subst, ◌∙◌}
use Rattle.std.specs.List.{list_any}
use Rattle.std.proofs.lemmas.List.Sorted.{IsPermutation-insert}
use Rattle.der_core.specs.Oid.Bound.{Bound}
use Rattle.der_types.specs.Sets.{IsPlace}
use Rattle.der_types.proofs.SetSteps.{placed}
use Rattle.x509_cert_names.specs.Names.{type_and_value}
use Rattle.x509_cert_names.specs.Pairs.{pair_plain, same_pair}
use Rattle.x509_cert_names.specs.declared.attribute_type_and_value.AttributeTypeAndValue.{AttributeTypeAndValue}
use Rattle.x509_cert_names.proofs.SameOctets.{distinct_insert}
use Rattle.x509_cert_names.proofs.relative_distinguished_name.RelativeDistinguishedName.insert.Goals as goal

pub invariant_of-self-2 : goal.invariant_of-self-2
invariant_of-self-2 c =
    let items = c.self.inside.attributes in
    let N : List AttributeTypeAndValue → Type 0 = λ xs. list_any (λ y. same_pair y c.args.item) xs ≡ false in
    let P : List AttributeTypeAndValue → Type 0 = λ xs. IsPlace (type_and_value Bound) pair_plain xs c.args.item c.in_ok-place.place in
    rw c.in_ok-insert.ensures.ok (
      distinct_insert items c.in_ok-place.place c.args.item c.self.invariant.0 (subst N (c.as_slice.ensures.attributes ∙ sym c.self.view_is) (sym c.contains.ensures.value ∙ c.if-contains.false)),
      placed (type_and_value Bound) pair_plain items c.in_ok-place.place c.args.item c.self.invariant.1 (subst P (c.as_slice-2.ensures.attributes ∙ sym c.self.view_is) c.in_ok-place.ensures.place),
    )

pub returns-clause-ok : goal.returns-clause-ok
returns-clause-ok c =
    rw (c.in_ok-insert.ensures.ok, ← c.self.view_is) (IsPermutation-insert c.self.inside.attributes c.in_ok-place.place c.args.item)

pub returns-then-contains-clause-refused : goal.returns-then-contains-clause-refused
returns-then-contains-clause-refused c =
    let N : List AttributeTypeAndValue → Type 0 = λ xs. list_any (λ y. same_pair y c.args.item) xs ≡ true in
    inl (search, subst N c.as_slice.ensures.attributes (sym c.contains.ensures.value ∙ c.if-contains.true))
