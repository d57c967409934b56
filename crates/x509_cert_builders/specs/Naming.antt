-- The naming rules for CAs (CA/Browser Forum, Baseline Requirements 7.1.4.1, 7.1.2.10.2).
use Rattle.std.specs.Prelude.{◌≡◌, ◌⊎◌, ℕ, ◌<◌, List, [], ◌∷◌, length, map, take, get_or, Bool}
use Rattle.std.specs.Prelude.{true, false, ◌&&◌, ◌||◌, nat_lt, not, Option, Some, None, Result, Ok}
use Rattle.std.specs.Prelude.{Err, IsOk, if◌then◌else◌}
use Rattle.std.specs.List.{find, flat_map, list_any, list_all, position_or_len}
use Rattle.x509_cert_certificates.specs.Oid.Comparing.{owned_eq}
use Rattle.x509_cert_certificates.specs.CertNameTexts.Keys.{pilot, x520}
use Rattle.x509_cert_certificates.specs.CertNames.Names.{PlainName, TypeAndValue}
use Rattle.x509_cert_builders.specs.declared.build_error.Error.{Error}
use Rattle.x509_cert_builders.specs.declared.build_error.Error.TheVariants as errors
use Rattle.x509_cert_builders.specs.Refusals.{IsWantOfMemory}

-- The types of a name's attributes, RDN by RDN.
abbrev pub name_types : PlainName → List (List ℕ)
name_types n = flat_map (map (λ (a : TypeAndValue). a.0)) n

-- The attribute types with names of their own here (RFC 5280 appendix A.1).
abbrev pub domain_component : List ℕ
domain_component = pilot 25

abbrev pub country : List ℕ
country = x520 6

abbrev pub organization : List ℕ
organization = x520 10

abbrev pub common_name : List ℕ
common_name = x520 3

-- The attribute types whose order in a name is fixed, in that order: domainComponent, countryName,
-- stateOrProvinceName, localityName, postalCode, streetAddress, organizationName, surname,
-- givenName, organizationalUnitName, commonName (7.1.4.2).
abbrev pub ordered_types : List (List ℕ)
ordered_types =
    domain_component ∷ country ∷ x520 8 ∷ x520 7 ∷ x520 17 ∷ x520 9 ∷ organization ∷ x520 4
    ∷ x520 42 ∷ x520 11 ∷ common_name ∷ []

-- The type is in the list.
abbrev pub is_among : List (List ℕ) → List ℕ → Bool
is_among types t = list_any (λ u. owned_eq u t) types

-- The index of a type in the fixed order, or the number of ordered types if it isn't one of them.
abbrev pub rank_of : List ℕ → ℕ
rank_of t = position_or_len (λ u. owned_eq u t) ordered_types

-- The type is one of those whose order is fixed.
abbrev pub is_ordered : List ℕ → Bool
is_ordered t = nat_lt (rank_of t) (length ordered_types)

-- A name may contain the type after the type `before`: one of them has no fixed order, or they are
-- in order.
abbrev pub may_follow : List ℕ → List ℕ → Bool
may_follow t before = not (is_ordered t) || not (is_ordered before)
    || nat_lt (rank_of before) (rank_of t)

-- The attribute type of an RDN after attributes of the types `before`, or the error if the RDN
-- isn't allowed there.
abbrev pub type_behind : Bool → List (List ℕ) → List TypeAndValue → Result (List ℕ) Error
type_behind repeats before [] = Err errors.NonUniqueRdn
type_behind repeats before (a ∷ []) =
    if not repeats && is_among before a.0 then Err errors.NonUniqueATV
    else if list_all (may_follow a.0) before then Ok a.0 else Err (errors.InvalidAttribute a.0)
type_behind repeats before (a ∷ b ∷ more) = Err errors.NonUniqueRdn

-- The attribute type of the RDN at index `i`, or the error if the RDN isn't allowed there.
abbrev pub type_at : Bool → PlainName → ℕ → Result (List ℕ) Error
type_at repeats n i = type_behind repeats (name_types (take i n)) (get_or n i [])

-- Every RDN of the name is allowed at its position.
abbrev pub IsNamed : Bool → PlainName → Type 0
IsNamed repeats n = (i : ℕ) → i < length n → IsOk (type_at repeats n i)

-- The error of the first RDN that isn't allowed at its position.
abbrev pub IsFirstFault : Bool → PlainName → Error → Type 0
IsFirstFault repeats n e = (i : ℕ) × (i < length n) × ((j : ℕ) → j < i → IsOk (type_at repeats n j))
    × (type_at repeats n i ≡ Err e)

-- The result of checking the rules for all names.
abbrev pub Names : {X : Type 0} → Bool → PlainName → Result X Error → Type 0
Names repeats n (Ok _) = IsNamed repeats n
Names repeats n (Err e) = IsFirstFault repeats n e ⊎ IsWantOfMemory e

-- The attribute types that the name of a CA may contain (7.1.2.10.2).
abbrev pub authority_types : List (List ℕ)
authority_types = country ∷ x520 8 ∷ x520 7 ∷ x520 17 ∷ x520 9 ∷ organization ∷ common_name ∷ []

-- The types include those that the name of a CA must contain (7.1.2.10.2).
abbrev pub has_required : List (List ℕ) → Bool
has_required types = is_among types country && is_among types organization
    && is_among types common_name

-- The first of these types that the name of a CA must not contain.
abbrev pub foreign_type : List (List ℕ) → Option (List ℕ)
foreign_type types = find (λ t. not (is_among authority_types t)) types

-- The error if a name with these types, each once, isn't the name of a CA.
abbrev pub IsAuthorityFault : List (List ℕ) → Error → Type 0
IsAuthorityFault types e =
    ((t : List ℕ) × (foreign_type types ≡ Some t) × (e ≡ errors.InvalidAttribute t))
    ⊎ ((foreign_type types ≡ None) × (has_required types ≡ false) × (e ≡ errors.MissingAttributes))

-- The result of checking the name of a CA (7.1.2.10.2).
abbrev pub NamesAuthority : {X : Type 0} → PlainName → Result X Error → Type 0
NamesAuthority n (Ok _) = IsNamed false n × (foreign_type (name_types n) ≡ None)
    × (has_required (name_types n) ≡ true)
NamesAuthority n (Err e) = IsFirstFault false n e
    ⊎ (IsNamed false n × IsAuthorityFault (name_types n) e) ⊎ IsWantOfMemory e
