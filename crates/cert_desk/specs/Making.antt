-- Built certificates and issued chains, as contracts see them.
use Rattle.std.specs.Prelude.{◌≡◌, ◌++◌, ℕ, List, Result, Ok, Err}
use Rattle.cert_desk_listing.specs.Oid.Bound.{Bound}
use Rattle.cert_desk_listing.specs.Der.BitStrings.{Bits}
use Rattle.cert_desk_listing.specs.Der.Limits.{length_max}
use Rattle.cert_desk_listing.specs.Der.Grammar.{plain_list}
use Rattle.cert_desk_listing.specs.Der.Shapes.{IsValid}
use Rattle.cert_desk_listing.specs.CertCertificates.Assembling.{PlainFields}
use Rattle.x509_cert_builders.specs.States.{as_written}
use Rattle.x509_cert_builders.specs.declared.build_error.Error.{Error}
use Rattle.cert_desk_orders.specs.CertParts.Grammar.{Algorithm, PlainExtension, PublicKey}
use Rattle.cert_desk_listing.specs.CertNames.Names.{PlainName}
use Rattle.cert_desk_listing.specs.CertCertificates.Certificates.{PlainCertificate, Tbs}
use Rattle.cert_desk_listing.specs.CertCertificates.Certificates.{certificate_octets}
use Rattle.cert_desk_listing.specs.CertCertificates.Certificates.{outer_algorithm, raw_certificate}
use Rattle.cert_desk_listing.specs.CertCertificates.Certificates.{signature_bits, tbs}
use Rattle.cert_desk_listing.specs.CertCertificates.Views.{certificate_plain}
use Rattle.cert_desk_checking.specs.DeskBundle.Chains.{Chain}
use Rattle.cert_desk.specs.declared.issued.Issued.TheInside.{Inside}
use Rattle.cert_desk.specs.declared.making.Made.{Made}
use Rattle.cert_desk.specs.declared.role.Role.{Role}
use Rattle.cert_desk.specs.declared.stop.Stop.{Stop}
use Rattle.cert_desk.specs.Chains.{IsMadeAt}
use Rattle.cert_desk.specs.Ordered.{extensions_for, names_for, part_octets}
use Rattle.cert_desk.specs.PlainOrders.{PlainOrder}
use Rattle.cert_desk.specs.Refusals.{IsStoppedAt, Stops}

-- The certificate as it is encoded.
abbrev pub made_plain : Made → PlainCertificate
made_plain m = as_written (certificate_plain m.certificate)

-- The fields of a certificate that an order determines, with an issuer of this name.
abbrev pub fields_below : PlainName → PlainOrder → PlainFields
fields_below issuer p =
    record {
      serial = p.serial;
      issuer = issuer;
      validity = p.validity;
      subject = p.subject;
      key = p.key;
    }

-- A profile has the subject of an order and the issuer above. After a subscriber's names, it adds
-- the extensions that the role requires.
pub record IsProfile {P : Type 0} (subject_name : P → Result PlainName Error)
    (issuer_name : P → PlainName → PlainName)
    (extensions : P → PublicKey → PublicKey → Tbs → List PlainExtension)
    (refuses : P → Error → Type 0) (role : Role) (p above : PlainOrder) (profile : P) : Type 0 where
  pub subject : subject_name profile ≡ Ok p.subject
  pub issuer : issuer_name profile p.subject ≡ above.subject
  pub adds : (t : Tbs) → names_for role p ++ extensions profile p.key above.key t
      ≡ extensions_for role p above.key
  pub willing : (e : Error) → refuses profile e → ⊥

-- A certificate with this TBSCertificate and this algorithm, whose bits are a signature, and its
-- bytes.
pub record IsMadeOf (t : Tbs) (a : Algorithm) (signs : List ℕ → Bits → Type 0)
    (c : PlainCertificate) (octets : List ℕ) : Type 0 where
  pub part : tbs c ≡ t
  pub algorithm : outer_algorithm c ≡ a
  pub signed : signs (part_octets t) (signature_bits c)
  pub octets_are : octets ≡ certificate_octets Bound c
  pub valid : IsValid (raw_certificate Bound) c

-- The certificate with a TBSCertificate is built, or this is the reason why it isn't.
abbrev pub Makes : (List ℕ → Type 0) → (List ℕ → Bits → Type 0) → Algorithm → Role → List (List ℕ)
    → Tbs → Result Made Stop → Type 0
Makes may_refuse signs a role dns t (Ok m) = IsMadeOf t a signs (made_plain m) m.octets.items
Makes may_refuse signs a role dns t (Err s) = Stops may_refuse signs a role dns t s

module _ {S : Type 0} (algorithm : S → Algorithm) (signs : S → List ℕ → Bits → Type 0)
    (may_refuse : S → List ℕ → Type 0) (ps : List PlainOrder) (signers : List S) (place : ℕ) where
  -- The certificate at an index is built, or this is the reason why it isn't.
  abbrev pub MakesAt : Result Made Stop → Type 0
  MakesAt (Ok m) = IsMadeAt algorithm signs ps signers place (made_plain m) m.octets.items
  MakesAt (Err s) = IsStoppedAt algorithm signs may_refuse ps signers place s

-- The certificates of a chain, and its bytes.
pub record PlainIssued : Type 0 where
  pub certificates : List PlainCertificate
  pub stream : List ℕ

-- The certificates of an issued chain as they are encoded, and its bytes.
abbrev pub issued_plain : Inside → PlainIssued
issued_plain i =
    record {
      certificates = plain_list (λ c. as_written (certificate_plain c)) i.certificates.items;
      stream = i.stream.items;
    }

-- The bytes are the concatenation of the certificates.
abbrev pub IsJoined : Inside → Type 0
IsJoined i =
    Chain Bound length_max (plain_list (λ c. as_written (certificate_plain c)) i.certificates.items)
    i.stream.items
