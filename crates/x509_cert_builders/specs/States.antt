-- The state of builders, and the certificates that they make.
use Rattle.std.specs.Prelude.{ℕ, List, ◌++◌, take, drop, Option, Some, None, true}
use Rattle.x509_cert_certificates.specs.Oid.Bound.{Bound}
use Rattle.x509_cert_certificates.specs.Der.Grammar.{plain_option}
use Rattle.x509_cert_certificates.specs.Certificates.{PlainCertificate, Tbs, certificate_by}
use Rattle.x509_cert_certificates.specs.Certificates.{certificate_octets, signed_start}
use Rattle.x509_cert_certificates.specs.Certificates.{signed_length, tbs_inner_algorithm}
use Rattle.x509_cert_certificates.specs.Views.{tbs_plain}
use Rattle.x509_cert_certificates.specs.CertParts.Grammar.{Algorithm, PlainExtension, PublicKey}
use Rattle.x509_cert_certificates.specs.CertParts.Views.{algorithm_plain, extensions_plain}
use Rattle.x509_cert_certificates.specs.Assembling.{PlainFields, bare_part, fields_of, signed_part}
use Rattle.x509_cert_builders.specs.SignedParts.{written_part}
use Rattle.x509_cert_builders.specs.declared.certificate_builder.CertificateBuilder.TheInside.{Inside}
use Rattle.x509_cert_builders.specs.declared.certificate_builder.Finalized.{Finalized}

-- The state of a builder of certificates: its profile, the fields that `new` sets, the extensions
-- that were added, and the part of the last `finalize`, if any.
pub record CertificateState (P : Type 0) : Type 0 where
  pub profile : P
  pub fields : PlainFields
  pub added : List PlainExtension
  pub finalized : Option Tbs

-- The TBSCertificate of the last `finalize`.
abbrev pub finalized_plain : PlainFields → Finalized → Tbs
finalized_plain f p =
    signed_part f (algorithm_plain p.algorithm) (extensions_plain p.extensions.items)

-- The state that a builder's fields represent.
abbrev pub certificate_state : {P : Type 0} → Inside P → CertificateState P
certificate_state b =
    let f = fields_of (tbs_plain b.part) in
    record {
      profile = b.profile;
      fields = f;
      added = extensions_plain b.extensions.items;
      finalized = plain_option (finalized_plain f) b.finalized;
    }

-- The TBSCertificate that a signer with this key and algorithm signs, if the profile has these
-- extensions.
abbrev pub part_for : {P : Type 0} → (P → PublicKey → PublicKey → Tbs → List PlainExtension)
    → CertificateState P → PublicKey → Algorithm → Tbs
part_for extensions b key a =
    written_part
    (signed_part b.fields a
    (b.added ++ extensions b.profile b.fields.key key (bare_part b.fields a)))

-- The algorithm of the part of the last `finalize`, or `a` if there is none.
abbrev pub algorithm_of_last : Option Tbs → Algorithm → Algorithm
algorithm_of_last None a = a
algorithm_of_last (Some t) a = tbs_inner_algorithm t

-- The certificate with its dates as RFC 5280 4.1.2.5 requires.
abbrev pub as_written : PlainCertificate → PlainCertificate
as_written c = certificate_by true c

-- The bytes at the position of the TBSCertificate in the encoding of a certificate, with its dates
-- as RFC 5280 4.1.2.5 requires.
abbrev pub certificate_octets_in_place : PlainCertificate → List ℕ
certificate_octets_in_place c =
    let w = as_written c in
    take (signed_length Bound w) (drop (signed_start Bound w) (certificate_octets Bound w))
