-- The states of builders.
use Rattle.std.specs.Prelude.{List, pos, Option, Some, None}
use Rattle.x509_cert_anchors.specs.Der.Grammar.{plain_list, plain_option}
use Rattle.x509_cert_lists.specs.CertParts.Grammar.{Algorithm, PlainExtension, PlainTime}
use Rattle.x509_cert_lists.specs.CertNames.Names.{PlainAttribute, PlainName}
use Rattle.x509_cert_lists.specs.CertNames.Views.{attribute_plain, name_plain}
use Rattle.x509_cert_lists.specs.CertParts.Views.{extensions_plain, time_value}
use Rattle.x509_cert_lists.specs.ListViews.{cert_req_info_plain, revoked_cert_plain}
use Rattle.x509_cert_lists.specs.ListViews.{tbs_cert_list_plain}
use Rattle.x509_cert.specs.Lists.{PlainEntry, PlainList}
use Rattle.x509_cert.specs.Requests.{PlainInfo}
use Rattle.x509_cert.specs.declared.crl_builder.CrlBuilder.TheInside as lists
use Rattle.x509_cert.specs.declared.request_builder.RequestBuilder.TheInside
    as requests

-- The state of a builder of CRLs: the issuer, the dates, the entries if the field is present, the
-- extensions of the CRL, and the part of the last `finalize`, if any.
pub record ListState : Type 0 where
  pub issuer : PlainName
  pub this_update : PlainTime
  pub next_update : Option PlainTime
  pub revoked : Option (List PlainEntry)
  pub extensions : List PlainExtension
  pub finalized : Option PlainList

-- The state that the fields of a builder of CRLs represent.
abbrev pub list_state : {P : Type 0} → lists.Inside P → ListState
list_state b = record {
  issuer = name_plain b.issuer;
  this_update = time_value b.this_update;
  next_update = plain_option time_value b.next_update;
  revoked = plain_option (λ rs. plain_list revoked_cert_plain rs.items) b.revoked_certificates;
  extensions = extensions_plain b.crl_extensions.items;
  finalized = plain_option tbs_cert_list_plain b.finalized;
}

-- The part that a signer with this algorithm signs: version 2, with the extensions (RFC 5280
-- 5.1.2.1, 5.1.2.7).
abbrev pub list_of : ListState → Algorithm → PlainList
list_of b a =
    (pos 1, (a, (b.issuer, (b.this_update, (b.next_update, (b.revoked, (Some b.extensions, tt)))))))

-- The algorithm of the part of the last `finalize`, or `a` if there is none.
abbrev pub list_algorithm_of_last : Option PlainList → Algorithm → Algorithm
list_algorithm_of_last None a = a
list_algorithm_of_last (Some t) a = t.1.0

-- The state of a builder of CSRs: the subject, the extensions that the CSR asks for, the other
-- attributes in ascending order of their encodings, and the part of the last `finalize`, if any.
pub record RequestState : Type 0 where
  pub subject : PlainName
  pub extensions : List PlainExtension
  pub attributes : List PlainAttribute
  pub finalized : Option PlainInfo

-- The state that the fields of a builder of CSRs represent.
abbrev pub request_state : requests.Inside → RequestState
request_state b = record {
  subject = name_plain b.subject;
  extensions = extensions_plain b.extensions.0.items;
  attributes = plain_list attribute_plain b.attributes.values.items;
  finalized = plain_option cert_req_info_plain b.finalized;
}
