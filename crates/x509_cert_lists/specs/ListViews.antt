-- The abstract value of each type of this crate, as a value of its shape in `ListGrammar`.
use Rattle.std.specs.Prelude.{ℕ, pos, None}
use Rattle.der_core.specs.Grammar.{plain_option, plain_list}
use Rattle.der_core.specs.Shapes.{BodyValue}
use Rattle.x509_cert_lists.specs.ListGrammar.{PlainList, cert_req_fields, cert_req_info_fields}
use Rattle.x509_cert_lists.specs.ListGrammar.{revoked_cert_fields, tbs_cert_list_fields}
use Rattle.x509_cert_lists.specs.declared.cert_req.CertReq.{CertReq}
use Rattle.x509_cert_lists.specs.declared.cert_req_info.CertReqInfo.{CertReqInfo}
use Rattle.x509_cert_lists.specs.declared.certificate_list.CertificateList.{CertificateList}
use Rattle.x509_cert_lists.specs.declared.request.Version.{Version}
use Rattle.x509_cert_lists.specs.declared.revoked_cert.RevokedCert.{RevokedCert}
use Rattle.x509_cert_lists.specs.declared.tbs_cert_list.TbsCertList.{TbsCertList}
use Rattle.x509_cert_names.specs.Views.{name_plain, attribute_plain}
use Rattle.x509_cert_parts.specs.Views.{version_number, time_value, algorithm_plain, key_plain}
use Rattle.x509_cert_parts.specs.Views.{extensions_plain}

abbrev pub revoked_cert_plain : {P : Type 0} → RevokedCert P
    → BodyValue (revoked_cert_fields 0 None)
revoked_cert_plain r = (
  r.serial_number,
  (
    time_value r.revocation_date,
    (plain_option (λ e. extensions_plain e.items) r.crl_entry_extensions, tt),
  ),
)

abbrev pub tbs_cert_list_plain : {P : Type 0} → TbsCertList P
    → BodyValue (tbs_cert_list_fields 0 None)
tbs_cert_list_plain t = (
  pos (version_number t.version),
  (
    algorithm_plain t.signature,
    (
      name_plain t.issuer,
      (
        time_value t.this_update,
        (
          plain_option time_value t.next_update,
          (
            plain_option (λ rs. plain_list revoked_cert_plain rs.items) t.revoked_certificates,
            (plain_option (λ e. extensions_plain e.items) t.crl_extensions, tt),
          ),
        ),
      ),
    ),
  ),
)

abbrev pub certificate_list_plain : {P : Type 0} → CertificateList P → PlainList
certificate_list_plain c = (
  tbs_cert_list_plain c.tbs_cert_list,
  (algorithm_plain c.signature_algorithm, (c.signature, tt)),
)

-- The number of a CSR's version.
abbrev pub request_number : Version → ℕ
request_number v = 0

abbrev pub cert_req_info_plain : CertReqInfo → BodyValue (cert_req_info_fields 0)
cert_req_info_plain i = (
  pos (request_number i.version),
  (
    name_plain i.subject,
    (key_plain i.public_key, (plain_list attribute_plain i.attributes.values.items, tt)),
  ),
)

abbrev pub cert_req_plain : CertReq → BodyValue (cert_req_fields 0)
cert_req_plain r = (cert_req_info_plain r.info, (algorithm_plain r.algorithm, (r.signature, tt)))
