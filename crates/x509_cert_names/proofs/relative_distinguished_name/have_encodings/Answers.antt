-- Goals of `relative_distinguished_name::have_encodings` that the checker doesn't prove by itself.
use Rattle.std.proofs.Common.{◌+◌, ◌<◌, List, ◌∷◌, length, drop, Result, subst, sym, arith}
use Rattle.std.proofs.lemmas.List.{drop_more}
use Rattle.std.proofs.lemmas.Result.{err_from_is_err_and}
use Rattle.der_core.specs.Oid.Bound.{Bound}
use Rattle.der_core.specs.Reading.{GivesNow}
use Rattle.der_core.specs.Writing.{size}
use Rattle.der_core.specs.ErrorTypes.Error.{Error}
use Rattle.der_core.specs.LengthTypes.Length.{Length}
use Rattle.der_core.specs.Placed.{AllValid}
use Rattle.x509_cert_names.specs.Names.{type_and_value}
use Rattle.x509_cert_names.specs.Pairs.{pair_plain}
use Rattle.x509_cert_names.specs.declared.attribute_type_and_value.AttributeTypeAndValue.{AttributeTypeAndValue}
use Rattle.x509_cert_names.proofs.SameOctets.{sized_valid, unsized_long}
use Rattle.x509_cert_names.proofs.relative_distinguished_name.have_encodings.Goals as goal

pub returns-in_err-encoded_len-clause-refused : goal.returns-in_err-encoded_len-clause-refused
returns-in_err-encoded_len-clause-refused c =
    let a = c.attribute-item.result in
    let P : Result Length Error → Type 0 = λ r. GivesNow (λ l. l.value) r (size (type_and_value Bound) (pair_plain a)) in
    let long = subst P c.in_err-encoded_len.was c.encoded_len.ensures in
    let lt : c.loop-attribute.attribute-index < length c.args.attributes.now = omega arith in
    let p = err_from_is_err_and c.from_residual.result c.from_residual.ensures.1 in
    rw (p.1, p.2) (unsized_long c.args.attributes.now c.loop-attribute.attribute-index a c.in_err-encoded_len.field-0.0 lt c.attribute-item.is long)

pub loop-attribute-preserved : goal.loop-attribute-preserved
loop-attribute-preserved c =
    let a = c.attribute-item.result in
    let P : Result Length Error → Type 0 = λ r. GivesNow (λ l. l.value) r (size (type_and_value Bound) (pair_plain a)) in
    let counted = subst P c.in_ok-encoded_len.was c.encoded_len.ensures in
    let valid = sized_valid a c.in_ok-encoded_len.field-0.value c.in_range.ensures counted in
    let lt : c.loop-attribute.attribute-index < length c.args.attributes.now = omega arith in
    let rest = drop (c.loop-attribute.attribute-index + 1) c.args.attributes.now in
    let Q : List AttributeTypeAndValue → Type 0 = λ xs. AllValid (type_and_value Bound) pair_plain xs in
    let R : AttributeTypeAndValue → Type 0 = λ x. AllValid (type_and_value Bound) pair_plain (x ∷ rest) in
    λ all. c.loop-attribute.invariant (subst Q (sym (drop_more c.args.attributes.now c.loop-attribute.attribute-index a lt)) (subst R c.attribute-item.is (valid, all)))
