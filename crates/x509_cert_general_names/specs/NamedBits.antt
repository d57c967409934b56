-- The bit of each revocation reason (RFC 5280 4.2.1.13). The first bit of the BIT STRING is the
-- least significant one.
use Rattle.std.specs.Prelude.{ℕ, ◌^◌, List, [], ◌∷◌, codes}

-- Each revocation reason with its name and its bit.
abbrev pub reason_flags : List (List ℕ × ℕ)
reason_flags =
    (codes "Unused", 2 ^ 0)
    ∷ (codes "KeyCompromise", 2 ^ 1)
    ∷ (codes "CaCompromise", 2 ^ 2)
    ∷ (codes "AffiliationChanged", 2 ^ 3)
    ∷ (codes "Superseded", 2 ^ 4)
    ∷ (codes "CessationOfOperation", 2 ^ 5)
    ∷ (codes "CertificateHold", 2 ^ 6)
    ∷ (codes "PrivilegeWithdrawn", 2 ^ 7)
    ∷ (codes "AaCompromise", 2 ^ 8)
    ∷ []
