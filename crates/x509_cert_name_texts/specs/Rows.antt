-- The table of attribute types as the code stores it: with encoded OIDs.
use Rattle.std.specs.Prelude.{ℕ, List, [], ◌∷◌, Bool, ◌||◌, nat_eq, codes}
use Rattle.std.specs.Cmp.Lexicographic.{pointwise}
use Rattle.x509_cert_name_texts.specs.Keys.{is_name}
use Rattle.x509_cert_name_texts.specs.declared.keys.Named.{Named}

-- A row of the table: the encoding of an OID, the type's shortest name in capitals, and its long
-- name.
pub record Row : Type 0 where
  pub octets : List ℕ
  pub short : List ℕ
  pub long : List ℕ

-- The row that a value of the code's type represents.
abbrev pub row_of : Named → Row
row_of n = record { octets = n.octets.now; short = n.short.now; long = n.long.now }

-- A row with these entries.
abbrev pub row : List ℕ → List ℕ → List ℕ → Row
row octets short long = record { octets = octets; short = short; long = long }

-- The encoding of an OID below 2.5.4 with one more arc below 128.
abbrev pub x520_octets : ℕ → List ℕ
x520_octets n = 0x55 ∷ 4 ∷ n ∷ []

-- The encoding of an OID below 0.9.2342.19200300.100.1 with one more arc below 128.
abbrev pub pilot_octets : ℕ → List ℕ
pilot_octets n = 0x09 ∷ 0x92 ∷ 0x26 ∷ 0x89 ∷ 0x93 ∷ 0xf2 ∷ 0x2c ∷ 0x64 ∷ 0x01 ∷ n ∷ []

-- The table, in the order of the definition's table.
unfoldable pub rows : List Row
rows =
    row (x520_octets 3) (codes "CN") (codes "commonName")
    ∷ row (x520_octets 4) (codes "SN") (codes "surname")
    ∷ row (x520_octets 5) (codes "SERIALNUMBER") (codes "serialNumber")
    ∷ row (x520_octets 6) (codes "C") (codes "countryName")
    ∷ row (x520_octets 7) (codes "L") (codes "localityName")
    ∷ row (x520_octets 8) (codes "ST") (codes "stateOrProvinceName")
    ∷ row (x520_octets 9) (codes "STREET") (codes "streetAddress")
    ∷ row (x520_octets 10) (codes "O") (codes "organizationName")
    ∷ row (x520_octets 11) (codes "OU") (codes "organizationalUnitName")
    ∷ row (x520_octets 17) (codes "POSTALCODE") (codes "postalCode")
    ∷ row (x520_octets 42) (codes "GN") (codes "givenName")
    ∷ row (pilot_octets 25) (codes "DC") (codes "domainComponent")
    ∷ row (pilot_octets 1) (codes "UID") (codes "userId")
    ∷ row (0x2a ∷ 0x86 ∷ 0x48 ∷ 0x86 ∷ 0xf7 ∷ 0x0d ∷ 0x01 ∷ 0x09 ∷ 0x01 ∷ []) (codes "EMAILADDRESS")
    (codes "emailAddress")
    ∷ []

-- The key is one of the row's names, ignoring ASCII case.
abbrev pub is_called : List ℕ → Row → Bool
is_called key r = is_name key r.short || is_name key r.long

-- The row's OID has this encoding.
abbrev pub has_octets : List ℕ → Row → Bool
has_octets w r = pointwise nat_eq r.octets w
