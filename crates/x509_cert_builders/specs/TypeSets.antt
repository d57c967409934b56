-- Looking up the attribute types of a name while its rules are checked.
use Rattle.std.specs.Prelude.{◌≡◌, ℕ, List, nat_le}
use Rattle.std.specs.BTreeSet.{BTreeSet, contains}
use Rattle.std.specs.List.{list_all}
use Rattle.x509_cert_certificates.specs.Oid.Orders.{owned_cmp}
use Rattle.x509_cert_builders.specs.Naming.{is_among, may_follow, rank_of}

-- A type is in the set exactly if it is in the list.
abbrev pub HasTypes : List (List ℕ) → BTreeSet (List ℕ) → Type 0
HasTypes types seen = (t : List ℕ) → contains owned_cmp seen t ≡ is_among types t

-- A type may come after all of these types exactly if its rank is at least `least`.
abbrev pub IsLeastRank : List (List ℕ) → ℕ → Type 0
IsLeastRank types least = (t : List ℕ)
    → list_all (may_follow t) types ≡ nat_le least (rank_of t)
