-- Goals of `certificate_type::attributes_left` that the checker doesn't prove by itself.
use Rattle.std.proofs.Common.{List, ◌++◌, sym, ap, ◌∙◌, subst}
use Rattle.std.specs.Slice.Iter.{iter_rest}
use Rattle.x509_cert_certificates.specs.CertNames.declared.attribute_type_and_value.AttributeTypeAndValue.{AttributeTypeAndValue}
use Rattle.x509_cert_certificates.specs.CertNames.Pairs.{relative_plain}
use Rattle.x509_cert_builders.specs.Subscribers.{KeepsDistinct, left_of}
use Rattle.x509_cert_builders.proofs.Subjects.{distinct_same, left_same}
use Rattle.x509_cert_builders.proofs.certificate_type.attributes_left.Goals as goal

pub loop-attribute-preserved : goal.loop-attribute-preserved
loop-attribute-preserved c =
    let whole = c.args.relative.now in
    let kept = c.loop-attribute.left.items in
    let more = iter_rest c.next.new.self in
    let next = c.in-Some.ensures.steps in
    record {
      left = left_same _ _ _ _ (ap (λ (xs : List AttributeTypeAndValue). relative_plain kept ++ left_of (relative_plain xs)) (sym next) ∙ c.loop-attribute.invariant.left) (sym c.may_stay.ensures ∙ c.if-may_stay.false);
      distinct = distinct_same whole kept c.in-Some.attribute.now more (subst (λ (xs : List AttributeTypeAndValue). KeepsDistinct whole (kept ++ xs)) next c.loop-attribute.invariant.distinct);
    }
