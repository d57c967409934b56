-- Subscribers (CA/Browser Forum, Baseline Requirements 7.1.2.7).
use Rattle.std.specs.Prelude.{⊤, ◌⊎◌, ℕ, List, [], ◌∷◌, Bool, Result, Ok, Err, if◌then◌else◌}
use Rattle.std.specs.Prelude.{length, ◌==◌, ◌&&◌, not, IsPermutation}
use Rattle.std.proofs.Common.{inl, inr}
use Rattle.std.specs.List.{AllByRecursion, IsDistinct, flat_map, list_all}
use Rattle.x509_cert_certificates.specs.Oid.Bound.{Bound}
use Rattle.x509_cert_certificates.specs.Der.ErrorTypes.ErrorKind.TheVariants as kinds
use Rattle.x509_cert_certificates.specs.Der.Grammar.{plain_list}
use Rattle.x509_cert_certificates.specs.Der.Shapes.{IsValid, Value}
use Rattle.x509_cert_extensions.specs.CertGeneralNames.GeneralNames.{general_name}
use Rattle.x509_cert_extensions.specs.CertGeneralNames.GeneralNameViews.{general_name_plain}
use Rattle.x509_cert_certificates.specs.CertNames.Names.{PlainName, TypeAndValue, type_and_value}
use Rattle.x509_cert_certificates.specs.CertNames.Views.{name_plain}
use Rattle.x509_cert_builders.specs.Refusals.{IsOfKind}
use Rattle.x509_cert_builders.specs.Naming.{common_name, country, is_among}
use Rattle.x509_cert_builders.specs.declared.certificate_type.CertificateType.{CertificateType}
use Rattle.x509_cert_builders.specs.declared.domain_validated.DomainValidated.{DomainValidated}
use Rattle.x509_cert_builders.specs.declared.build_error.Error.{Error}
use Rattle.x509_cert_builders.specs.declared.build_error.Error.TheVariants as errors
use Rattle.x509_cert_builders.specs.declared.certificate_type.CertificateType.TheVariants as types

-- The subject of a subscriber. Types other than DomainValidated aren't supported.
abbrev pub type_subject : CertificateType → Result PlainName Error
type_subject (types.DomainValidated v) = Ok (name_plain v.subject)
type_subject types.IndividualValidated = Err errors.Unsupported
type_subject types.OrganizationValidated = Err errors.Unsupported
type_subject types.ExtendedValidation = Err errors.Unsupported

-- The domains of a subscriber. Types other than DomainValidated have none.
abbrev pub type_domains : CertificateType → List (Value (general_name 0))
type_domains (types.DomainValidated v) = plain_list general_name_plain v.names.items
type_domains types.IndividualValidated = []
type_domains types.OrganizationValidated = []
type_domains types.ExtendedValidation = []

-- The subject and the domains of a domain-validated subscriber.
abbrev pub domains_plain : DomainValidated → PlainName × List (Value (general_name 0))
domains_plain v = (name_plain v.subject, plain_list general_name_plain v.names.items)

-- The abstract value of a certificate type.
abbrev pub type_plain : CertificateType → (PlainName × List (Value (general_name 0))) ⊎ ℕ
type_plain (types.DomainValidated v) = inl (domains_plain v)
type_plain types.IndividualValidated = inr 1
type_plain types.OrganizationValidated = inr 2
type_plain types.ExtendedValidation = inr 3

-- Elements that are distinct in the whole list are distinct in the other list, for every notion of
-- equality.
abbrev pub KeepsDistinct : {A : Type 0} → List A → List A → Type 0
KeepsDistinct {A} whole these =
    (same : A → A → Bool) → IsDistinct same whole → IsDistinct same these

-- The subject of a domain-validated certificate may contain the attribute: it is a country or a
-- common name (7.1.2.7.2).
abbrev pub may_stay : TypeAndValue → Bool
may_stay a = is_among (country ∷ common_name ∷ []) a.0

-- The attributes of an RDN that the subject may contain.
abbrev pub left_of : List TypeAndValue → List TypeAndValue
left_of [] = []
left_of (a ∷ more) = if may_stay a then a ∷ left_of more else left_of more

-- The RDNs with `r` before them, unless it is empty.
abbrev pub relative_in_front : List TypeAndValue → PlainName → PlainName
relative_in_front [] more = more
relative_in_front (a ∷ r) more = (a ∷ r) ∷ more

-- The name with only the attributes that the subject may contain, and without empty RDNs.
abbrev pub domain_subject : PlainName → PlainName
domain_subject [] = []
domain_subject (r ∷ more) = relative_in_front (left_of r) (domain_subject more)

-- The attributes of a name that the subject may contain.
abbrev pub attributes_left : PlainName → List TypeAndValue
attributes_left n = flat_map left_of n

-- Each of these attributes has an encoding.
abbrev pub AreShort : List TypeAndValue → Type 0
AreShort r = AllByRecursion (IsValid (type_and_value Bound)) r

-- An attribute has no encoding, because it would have 2^32 bytes or more, and the error says so.
abbrev pub HasLongAttribute : List TypeAndValue → Error → Type 0
HasLongAttribute r e = IsOfKind kinds.Overflow e × (AreShort r → ⊥)

-- Each RDN has the attributes of the other name's RDN, in any order.
abbrev pub SameAttributes : PlainName → PlainName → Type 0
SameAttributes [] [] = ⊤
SameAttributes [] (s ∷ ss) = ⊥
SameAttributes (r ∷ rs) [] = ⊥
SameAttributes (r ∷ rs) (s ∷ ss) = IsPermutation r s × SameAttributes rs ss

-- The RDN isn't empty and the subject may contain all of its attributes, and the same for all RDNs
-- of a name.
abbrev pub stays : List TypeAndValue → Bool
stays r = not (length r == 0) && list_all may_stay r

abbrev pub all_stays : PlainName → Bool
all_stays n = list_all stays n
