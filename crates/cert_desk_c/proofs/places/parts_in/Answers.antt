-- Goals of `places::parts_in` that the checker doesn't prove by itself.
use Rattle.cert_tool_describe.specs.Oid.Bound.{Bound}
use Rattle.cert_tool_describe.specs.Der.Integers.{integer_octets}
use Rattle.cert_tool_describe.specs.Der.Shapes.{octets_of}
use Rattle.cert_tool_describe.specs.CertNames.Names.{name}
use Rattle.cert_tool_describe.specs.CertParts.Grammar.{public_key_info}
use Rattle.cert_tool_describe.specs.CertCertificates.Certificates.{raw_tbs_certificate, tbs, tbs_serial, issuer, subject, public_key}
use Rattle.cert_desk_c.proofs.PartPlaces.{Walk, signed_is, number_is, issuer_is, subject_is, key_is, before_number, before_issuer, before_subject, before_key, behind_is}
use Rattle.cert_desk_c.proofs.places.parts_in.Goals as goal

pub returns : goal.returns
returns c =
    let octets = c.args.octets.now in
    let walk : Walk octets = record {
      signed = c.inside-signed.result.now;
      signed_in = c.inside-signed.ensures;
      outer = c.behind-outer.result.now;
      outer_behind = c.behind-outer.ensures;
      fields = c.inside-fields.result.now;
      fields_in = c.inside-fields.ensures;
      serial = c.behind_version-serial_number.result.now;
      serial_behind = c.behind_version-serial_number.ensures;
      number = c.inside-number.result.now;
      number_in = c.inside-number.ensures;
      algorithm = c.behind-algorithm.result.now;
      algorithm_behind = c.behind-algorithm.ensures;
      issued = c.behind-issuer.result.now;
      issued_behind = c.behind-issuer.ensures;
      valid_at = c.behind-validity.result.now;
      valid_at_behind = c.behind-validity.ensures;
      named = c.behind-subject.result.now;
      named_behind = c.behind-subject.ensures;
      key = c.behind-key.result.now;
      key_behind = c.behind-key.ensures;
      rest = c.behind-rest.result.now;
      rest_behind = c.behind-rest.ensures;
    } in
    record {
      parts = λ it s.
          let number = before_number octets walk it s in
          let issued = before_issuer octets walk it s in
          let named = before_subject octets walk it s in
          let key = before_key octets walk it s in
          record {
            signed_part = c.part.ensures walk.signed_in.0.0 (octets_of (raw_tbs_certificate Bound) (tbs it)) walk.signed_in.0.1 (signed_is octets walk it s);
            serial_number = c.part-2.ensures number.0 (integer_octets (tbs_serial (tbs it))) number.1 (number_is octets walk it s);
            issuer = c.part-3.ensures issued.0 (octets_of (name Bound) (issuer it)) issued.1 (issuer_is octets walk it s);
            subject = c.part-4.ensures named.0 (octets_of (name Bound) (subject it)) named.1 (subject_is octets walk it s);
            public_key = c.part-5.ensures key.0 (octets_of (public_key_info Bound) (public_key it)) key.1 (key_is octets walk it s);
          };
      rest = λ it s. behind_is octets walk it s;
    }
