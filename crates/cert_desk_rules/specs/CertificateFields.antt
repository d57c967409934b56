-- The fields of a certificate that validation needs, by their names (RFC 5280 4.1, 4.1.2).
use Rattle.std.specs.Prelude.{List, []}
use Rattle.std.specs.Option.{option_map_or}
use Rattle.cert_desk_bundle.specs.Der.BitStrings.{Bits}
use Rattle.cert_desk_bundle.specs.Der.Dates.{Civil}
use Rattle.cert_desk_bundle.specs.CertNames.Names.{PlainName}
use Rattle.cert_desk_bundle.specs.CertParts.Grammar.{Algorithm, PlainExtension, PublicKey, civil_of}
use Rattle.cert_desk_bundle.specs.CertCertificates.Certificates.{PlainCertificate}

-- The fields. A date is independent of its encoding, and an absent extensions field is an empty
-- list.
pub record Fields : Type 0 where
  pub signature : Algorithm
  pub issuer : PlainName
  pub not_before : Civil
  pub not_after : Civil
  pub subject : PlainName
  pub public_key : PublicKey
  pub extensions : List PlainExtension
  pub signature_algorithm : Algorithm
  pub signature_value : Bits

-- The fields of a certificate.
abbrev pub fields : PlainCertificate → Fields
fields ((_, (_, (a, (i, ((f, (t, _)), (s, (k, (_, (_, (e, _)))))))))), (o, (b, _))) = record {
  signature = a;
  issuer = i;
  not_before = civil_of f;
  not_after = civil_of t;
  subject = s;
  public_key = k;
  extensions = option_map_or (λ es. es) e [];
  signature_algorithm = o;
  signature_value = b;
}
