-- The certificate that is ordered at each index (RFC 5280 4.1.2; CA/Browser Forum, Baseline
-- Requirements 7.1.2).
use Rattle.std.specs.Prelude.{ℕ, pos, List, [], ◌∷◌, length, Some, None, ◌==◌}
use Rattle.std.proofs.Common.{inl, inr}
use Rattle.std.specs.Bool.{⊤}
use Rattle.cert_desk_listing.specs.Oid.Bound.{Bound}
use Rattle.cert_desk_listing.specs.Der.Grammar.{plain_list, plain_option}
use Rattle.cert_desk_listing.specs.Der.Shapes.{IsValid, Value, octets_of}
use Rattle.cert_desk_orders.specs.CertParts.ExtensionTypes.{id_ce}
use Rattle.x509_cert_builders.specs.CertExtensions.Making.{extension_of}
use Rattle.x509_cert_builders.specs.Profiles.{digital_signature, root_extensions}
use Rattle.x509_cert_builders.specs.Profiles.{subordinate_extensions}
use Rattle.x509_cert_builders.specs.Profiles.{subscriber_extensions}
use Rattle.cert_desk_listing.specs.CertCertificates.Certificates.{Tbs, tbs_certificate}
use Rattle.cert_desk_orders.specs.CertParts.Grammar.{Algorithm, PlainExtension, PublicKey}
use Rattle.cert_desk_listing.specs.CertNames.Names.{PlainName}
use Rattle.cert_desk_checking.specs.CertGeneralNames.GeneralNames.{general_name, general_names}
use Rattle.cert_desk.specs.declared.role.Role.{Role}
use Rattle.cert_desk.specs.declared.role.Role.TheVariants as roles
use Rattle.cert_desk.specs.PlainOrders.{PlainOrder}

-- dNSName (RFC 5280 4.2.1.6).
abbrev pub dns_name : List ℕ → Value (general_name 0)
dns_name text = inr (inr (inl text))

-- DNS names as GeneralNames (RFC 5280 4.2.1.6).
abbrev pub dns_names : List (List ℕ) → List (Value (general_name 0))
dns_names texts = plain_list dns_name texts

-- The DNS names of a subscriber have an encoding. Those of other roles are ignored.
abbrev pub CanName : Role → List (List ℕ) → Type 0
CanName roles.Subscriber dns = IsValid (general_names Bound) (dns_names dns)
CanName _ dns = ⊤

-- SubjectAltName, which is critical if the subject is empty (RFC 5280 4.2.1.6).
abbrev pub names_extension : PlainName → List (List ℕ) → PlainExtension
names_extension subject dns =
    extension_of (id_ce 17) (length subject == 0) (general_names Bound) (dns_names dns)

-- The extension for the DNS names of a subscriber.
abbrev pub names_for : Role → PlainOrder → List PlainExtension
names_for roles.Root p = []
names_for roles.Subordinate p = []
names_for roles.Subscriber p = names_extension p.subject p.dns ∷ []

-- The extensions of the certificate that an order asks for in a role, below an issuer with this key
-- (RFC 5280 4.2).
abbrev pub extensions_for : Role → PlainOrder → PublicKey → List PlainExtension
extensions_for roles.Root p above = root_extensions p.answers p.key
extensions_for roles.Subordinate p above =
    subordinate_extensions p.answers p.clients (plain_option (λ n. pos n) p.path) p.key above
extensions_for roles.Subscriber p above = names_extension p.subject p.dns
    ∷ subscriber_extensions p.clients digital_signature above

-- The TBSCertificate that is ordered in a role, below another order. It has version 3 and no unique
-- identifiers (RFC 5280 4.1.2).
abbrev pub ordered_part : Role → PlainOrder → PlainOrder → Algorithm → Tbs
ordered_part role p above a = (
  pos 2,
  (
    p.serial,
    (
      a,
      (
        above.subject,
        (
          p.validity,
          (p.subject, (p.key, (None, (None, (Some (extensions_for role p above.key), tt))))),
        ),
      ),
    ),
  ),
)

-- The encoding of a TBSCertificate (RFC 5280 4.1.1.3).
abbrev pub part_octets : Tbs → List ℕ
part_octets t = octets_of (tbs_certificate Bound None) t
