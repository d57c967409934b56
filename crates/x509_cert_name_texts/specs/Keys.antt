-- The names of attribute types in the string form of names (RFC 4514 3; RFC 4519 2; RFC 2985 5.2.1
-- for emailAddress).
use Rattle.std.specs.Prelude.{ℕ, List, [], ◌∷◌, Bool, Option, Some, None, Result, Ok, Err, codes}
use Rattle.std.specs.Prelude.{length, map, nat_eq, nat_lt, if◌then◌else◌}
use Rattle.std.specs.Char.{to_ascii_lowercase, to_ascii_uppercase}
use Rattle.std.specs.Cmp.Lexicographic.{pointwise}
use Rattle.std.specs.List.{find, list_any}
use Rattle.der_core.specs.Oid.Bound.{max_size}
use Rattle.der_core.specs.Oid.Comparing.{owned_eq}
use Rattle.der_core.specs.Oid.TextReading.{read_text}
use Rattle.der_core.specs.Oid.declared.error.Error.{Error}
use Rattle.der_core.specs.ErrorTypes.ErrorKind.{ErrorKind}
use Rattle.der_core.specs.ErrorTypes.ErrorKind.TheVariants as kinds

-- The arcs of an attribute type's OID, and the type's names.
pub record Named : Type 0 where
  pub arcs : List ℕ
  pub names : List (List ℕ)

-- The arcs of an attribute type below 2.5.4 (id-at).
abbrev pub x520 : ℕ → List ℕ
x520 n = 2 ∷ 5 ∷ 4 ∷ n ∷ []

-- The arcs of an attribute type below 0.9.2342.19200300.100.1.
abbrev pub pilot : ℕ → List ℕ
pilot n = 0 ∷ 9 ∷ 2342 ∷ 19200300 ∷ 100 ∷ 1 ∷ n ∷ []

-- The arcs of emailAddress (RFC 2985 5.2.1).
abbrev pub email_address : List ℕ
email_address = 1 ∷ 2 ∷ 840 ∷ 113549 ∷ 1 ∷ 9 ∷ 1 ∷ []

-- An attribute type with one name.
abbrev pub once : List ℕ → List ℕ → Named
once arcs name = record { arcs = arcs; names = name ∷ [] }

-- An attribute type with a short and a long name.
abbrev pub twice : List ℕ → List ℕ → List ℕ → Named
twice arcs short long = record { arcs = arcs; names = short ∷ long ∷ [] }

-- All attribute types that have a name.
unfoldable pub named_types : List Named
named_types =
    twice (x520 3) (codes "cn") (codes "commonName")
    ∷ twice (x520 4) (codes "sn") (codes "surname")
    ∷ once (x520 5) (codes "serialNumber")
    ∷ twice (x520 6) (codes "c") (codes "countryName")
    ∷ twice (x520 7) (codes "l") (codes "localityName")
    ∷ twice (x520 8) (codes "st") (codes "stateOrProvinceName")
    ∷ twice (x520 9) (codes "street") (codes "streetAddress")
    ∷ twice (x520 10) (codes "o") (codes "organizationName")
    ∷ twice (x520 11) (codes "ou") (codes "organizationalUnitName")
    ∷ once (x520 17) (codes "postalCode")
    ∷ twice (x520 42) (codes "gn") (codes "givenName")
    ∷ twice (pilot 25) (codes "dc") (codes "domainComponent")
    ∷ twice (pilot 1) (codes "uid") (codes "userId")
    ∷ once email_address (codes "emailAddress")
    ∷ []

-- The key is this name, ignoring ASCII case.
abbrev pub is_name : List ℕ → List ℕ → Bool
is_name key name = pointwise nat_eq (map to_ascii_lowercase name) (map to_ascii_lowercase key)

-- The first attribute type that has this name.
unfoldable pub type_named : List ℕ → Option Named
type_named key = find (λ t. list_any (is_name key) t.names) named_types

-- The arcs of an OID in dotted form, with every parsing error as OidMalformed.
abbrev pub dotted_arcs : Result (List ℕ) Error → Result (List ℕ) ErrorKind
dotted_arcs (Ok arcs) = Ok arcs
dotted_arcs (Err e) = Err kinds.OidMalformed

-- The arcs that a key denotes: those of the type that it names, or those of a dotted OID whose arcs
-- are below `bound`.
abbrev pub arcs_or : ℕ → Option Named → List ℕ → Result (List ℕ) ErrorKind
arcs_or bound (Some t) key = Ok t.arcs
arcs_or bound None key = dotted_arcs (read_text bound max_size key)

-- The arcs that a key denotes, or OidMalformed if it is neither a name nor a dotted OID.
abbrev pub key_arcs : ℕ → List ℕ → Result (List ℕ) ErrorKind
key_arcs bound key = arcs_or bound (type_named key) key

-- The shortest of these names and the best so far. Of names with the same length, the first is
-- taken.
abbrev pub shortest : List ℕ → List (List ℕ) → List ℕ
shortest best [] = best
shortest best (name ∷ names) = shortest (if nat_lt (length name) (length best) then name else best)
    names

-- The shortest of these names.
abbrev pub shortest_name : List (List ℕ) → List ℕ
shortest_name [] = []
shortest_name (name ∷ names) = shortest name names

-- The shortest name of a type in capitals, as it is printed.
abbrev pub printed_name : Option Named → Option (List ℕ)
printed_name None = None
printed_name (Some t) = Some (map to_ascii_uppercase (shortest_name t.names))

-- The name that is printed for the attribute type with these arcs, if it has one.
unfoldable pub key_of : List ℕ → Option (List ℕ)
key_of arcs = printed_name (find (λ t. owned_eq t.arcs arcs) named_types)
