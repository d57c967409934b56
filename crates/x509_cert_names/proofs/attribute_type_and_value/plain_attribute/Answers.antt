-- Goals of `attribute_type_and_value::plain_attribute` that the checker doesn't prove by itself.
use Rattle.std.proofs.Common.{sym, subst, ◌∙◌}
use Rattle.der_core.specs.Oid.Bound.{Bound}
use Rattle.der_core.specs.Shapes.{AnyValue, Spells}
use Rattle.x509_cert_names.specs.Names.{type_and_value}
use Rattle.x509_cert_names.specs.Pairs.{pair}
use Rattle.x509_cert_names.proofs.PlainSpelled.{plain_spells}
use Rattle.x509_cert_names.proofs.attribute_type_and_value.plain_attribute.Goals as goal

pub returns-in-Ok-ref_to_owned : goal.returns-in-Ok-ref_to_owned
returns-in-Ok-ref_to_owned c =
    let parts = c.in_ok-parts.parts in
    let oid = c.in-Ok.ensures.ok in
    let P : AnyValue → Type 0 = λ v. Spells (type_and_value Bound) (pair c.in-Ok.oid v) c.args.octets.now in
    subst P (sym (c.in-Ok-ref_to_owned.ensures ∙ c.in-Ok-new.ensures.ok.1)) (plain_spells c.in-Ok.oid parts.1 parts.0.now parts.2.now c.args.octets.now c.in_ok-parts.ensures oid.0 oid.1 oid.2)
