-- Goals of `Located::read`: the decoded fields make a certificate, and if one can't be decoded, no
-- certificate has these bytes.
use Rattle.std.proofs.Common.{◌≡◌, ℕ, List, [], ◌++◌, length, drop, refl, sym, ap, ◌∙◌, arith, append-nil, length-append}
use Rattle.std.proofs.lemmas.List.{take_rest}
use Rattle.x509_cert_certificates.specs.Oid.Bound.{Bound}
use Rattle.x509_cert_certificates.proofs.Der.Results.{ok_is}
use Rattle.x509_cert_certificates.specs.Der.Shapes.{Value, octets_of}
use Rattle.x509_cert_certificates.specs.CertParts.Grammar.{algorithm_identifier, bit_string}
use Rattle.x509_cert_certificates.specs.CertParts.Views.{algorithm_plain}
use Rattle.x509_cert_certificates.specs.Certificates.{PlainCertificate, Tbs, raw_tbs_certificate, tbs}
use Rattle.x509_cert_certificates.specs.Views.{tbs_plain}
use Rattle.cert_desk_bundle.specs.Headers.{IsContentAt}
use Rattle.cert_desk_bundle.proofs.LocationLaws.{behind_signed, fields_valid, fields_there, fields_spell, rest_fits, second_fits, signed_by_fields, unread}
use Rattle.cert_desk_bundle.proofs.located.Located.read.Goals as goal

pub returns-in-Err-clause-unread : goal.returns-in-Err-clause-unread
returns-in-Err-clause-unread c =
    let octets = c.args.octets.items in
    let start = c.in-Some.header in
    let at : IsContentAt octets start = rw c.deref.ensures.value at c.in-Some.ensures.content in
    unread octets c.standing_of.result c.in-Err.error.kind c.standing_of.ensures
    (λ other d s. cc (c.in-Err.ensures.only (tbs d) (behind_signed Bound d) refl refl refl (fields_valid Bound d s.valid).0
    (rw (take_rest, c.deref-2.ensures.value) (fields_there octets start at d s)) (rw (take_rest, c.deref-2.ensures.value) (rest_fits octets start at)) other))

pub overflow_sub-signed : goal.overflow_sub-signed
overflow_sub-signed c =
    let front = c.in-Ok.ensures.spelled refl in
    omega (arith, ap length front.1, length-append (octets_of (raw_tbs_certificate Bound) (tbs_plain c.in-Ok.front.0)) c.in-Ok.front.1.now)

pub returns-in-Err-from_der_partial-clause-unread : goal.returns-in-Err-from_der_partial-clause-unread
returns-in-Err-from_der_partial-clause-unread c =
    let octets = c.args.octets.items in
    let start = c.in-Some.header in
    let at : IsContentAt octets start = rw c.deref.ensures.value at c.in-Some.ensures.content in
    unread octets c.standing_of-in-Err-from_der_partial.result c.in-Err-from_der_partial.error.kind c.standing_of-in-Err-from_der_partial.ensures
    (λ other d s.
    let valid = fields_valid Bound d s.valid in
    let front = c.in-Ok.ensures.only (tbs d) (behind_signed Bound d) refl refl refl valid.0 (rw (take_rest, c.deref-2.ensures.value) (fields_there octets start at d s))
    (rw (take_rest, c.deref-2.ensures.value) (rest_fits octets start at)) in
    let behind : c.in-Ok.front.1.now ≡ behind_signed Bound d = ap (λ (q : Tbs × List ℕ). q.1) (sym (ok_is _ _ front)) in
    cc (c.in-Err-from_der_partial.ensures.only d.1.0 (octets_of bit_string d.1.1.0 ++ []) refl refl refl valid.1 behind (rw behind (second_fits octets start at d s)) other))

pub returns-in-Err-from_der-clause-unread : goal.returns-in-Err-from_der-clause-unread
returns-in-Err-from_der-clause-unread c =
    let octets = c.args.octets.items in
    let start = c.in-Some.header in
    let at : IsContentAt octets start = rw c.deref.ensures.value at c.in-Some.ensures.content in
    unread octets c.standing_of-in-Err-from_der.result c.in-Err-from_der.error.kind c.standing_of-in-Err-from_der.ensures
    (λ other d s.
    let valid = fields_valid Bound d s.valid in
    let front = c.in-Ok.ensures.only (tbs d) (behind_signed Bound d) refl refl refl valid.0 (rw (take_rest, c.deref-2.ensures.value) (fields_there octets start at d s))
    (rw (take_rest, c.deref-2.ensures.value) (rest_fits octets start at)) in
    let behind : c.in-Ok.front.1.now ≡ behind_signed Bound d = ap (λ (q : Tbs × List ℕ). q.1) (sym (ok_is _ _ front)) in
    let second = c.in-Ok-from_der_partial.ensures.only d.1.0 (octets_of bit_string d.1.1.0 ++ []) refl refl refl valid.1 behind (rw behind (second_fits octets start at d s)) in
    let last : c.in-Ok-from_der_partial.front.1.now ≡ octets_of bit_string d.1.1.0 ++ [] = ap (λ (q : Value (algorithm_identifier Bound) × List ℕ). q.1) (sym (ok_is _ _ second)) in
    cc (c.in-Err-from_der.ensures.only d.1.1.0 refl refl (record { valid = valid.2; octets = rw append-nil at last }) other))

pub returns-clause-read : goal.returns-clause-read
returns-clause-read c =
    let octets = c.args.octets.items in
    let start = c.in-Some.header in
    let at : IsContentAt octets start = rw c.deref.ensures.value at c.in-Some.ensures.content in
    let first = c.in-Ok.ensures.spelled refl in
    let second = c.in-Ok-from_der_partial.ensures.spelled refl in
    let third = c.in-Ok-from_der.ensures.spelled refl in
    let made : PlainCertificate = (tbs_plain c.in-Ok.front.0, (algorithm_plain c.in-Ok-from_der_partial.front.0, (c.in-Ok-from_der.signature, tt))) in
    let content : drop start octets ≡ octets_of (raw_tbs_certificate Bound) (tbs made) ++ c.in-Ok.front.1.now = rw (take_rest, c.deref-2.ensures.value) at first.1 in
    let last : c.in-Ok-from_der_partial.front.1.now ≡ octets_of bit_string made.1.1.0 ++ [] = rw append-nil third.octets in
    let told = fields_spell octets start at made first.0 second.0 third.valid
    (content ∙ ap (λ (w : List ℕ). octets_of (raw_tbs_certificate Bound) (tbs made) ++ w) (second.1 ∙ ap (λ (w : List ℕ). octets_of (algorithm_identifier Bound) made.1.0 ++ w) last)) in
    record {
      offset_is = refl;
      octets_are = refl;
      spelled = rw c.certificate_of-certificate.ensures told.0;
      header = rw c.certificate_of-certificate.ensures told.1;
      signed = rw (take_rest, c.deref-2.ensures.value, c.certificate_of-certificate.ensures) (signed_by_fields made (drop start octets) c.in-Ok.front.1.now content);
    }
