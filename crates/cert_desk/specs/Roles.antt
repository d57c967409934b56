-- The roles of the certificates of a chain.
use Rattle.std.specs.Prelude.{ℕ, zero, suc, ◌-◌, nat_lt, ◌==◌, if◌then◌else◌}
use Rattle.cert_desk.specs.declared.role.Role.{Role}
use Rattle.cert_desk.specs.declared.role.Role.TheVariants as roles

-- The role at an index of a chain with `count` certificates: the first is a root, the last of two
-- or more is a subscriber, and those between are CAs below the root.
abbrev pub role_at : ℕ → ℕ → Role
role_at count zero = roles.Root
role_at count (suc place) = if count == suc (suc place) then roles.Subscriber else roles.Subordinate

-- The index of the order above: its subject is the issuer, and its key signs. It is the index
-- before, and a root's own.
abbrev pub place_above : ℕ → ℕ
place_above zero = zero
place_above (suc place) = place

-- The number of signers: one for a single root, and otherwise one for each certificate below
-- another one.
abbrev pub signers_for : ℕ → ℕ
signers_for count = if nat_lt count 2 then 1 else count - 1
