-- Hosts that a client connects to, and the names and addresses that a certificate presents for them
-- (RFC 9525). The common name isn't one of them (RFC 9525 2).
use Rattle.std.specs.Prelude.{◌≡◌, ◌⊎◌, ℕ, ◌-◌, List, Bool, false, ◌&&◌, ◌||◌, ◌==◌, length}
use Rattle.std.specs.Prelude.{nat_lt, nat_le, nat_eq, bytes_eq, codes, drop, take, IsTrue}
use Rattle.std.specs.Prelude.{Option, Some, None, if◌then◌else◌}
use Rattle.std.specs.Char.{is_ascii_alphanumeric}
use Rattle.std.specs.List.{after_first, before_first, ends_with, list_all, position_or_len}
use Rattle.std.specs.List.{slice_split, starts_with}
use Rattle.std.specs.Str.{str_eq_ignore_ascii_case}
use Rattle.std.specs.Net.Addr.{ipv4_octets, ipv6_octets}
use Rattle.std.specs.Net.Grammar.{IsIpText, IsIpv6Text}
use Rattle.std.specs.declared.net.ip_addr.IpAddr.{IpAddr}
use Rattle.std.specs.declared.net.ip_addr.IpAddr.TheVariants as ips
use Rattle.cert_tool_hosts.specs.declared.host.Host.{Host}
use Rattle.cert_tool_hosts.specs.declared.host.Host.TheVariants as hosts

-- The byte is `.`.
abbrev pub is_dot : ℕ → Bool
is_dot octet = octet == 46

-- A letter, a digit, `-` or `_`.
abbrev pub is_name_octet : ℕ → Bool
is_name_octet octet = is_ascii_alphanumeric octet || (octet == 45 || octet == 95)

-- A label: 1 to 63 of these characters (RFC 1034 3.1). Unlike in RFC 1123 2.1, it may have `_`, and
-- `-` at either end.
abbrev pub is_label : List ℕ → Bool
is_label label =
    nat_lt 0 (length label) && (nat_le (length label) 63 && list_all is_name_octet label)

-- A DNS name as text: labels with dots between them, and at most 253 bytes (RFC 1035 2.3.4).
abbrev pub is_dns_name : List ℕ → Bool
is_dns_name text = nat_le (length text) 253 && list_all is_label (slice_split is_dot text)

-- The text before the bracket `]` at its end.
abbrev pub before_bracket : List ℕ → Option (List ℕ)
before_bracket text =
    if ends_with nat_eq text (codes "]") then Some (take (length text - 1) text) else None

-- The text between the brackets `[` and `]`, which URIs write around an IPv6 address (RFC 3986
-- 3.2.2).
abbrev pub in_brackets : List ℕ → Option (List ℕ)
in_brackets text =
    if starts_with nat_eq text (codes "[") then before_bracket (drop 1 text) else None

-- The text between brackets is this IPv6 address.
abbrev pub IsBracketed : Option (List ℕ) → IpAddr → Type 0
IsBracketed (Some inner) (ips.V6 address) = IsIpv6Text inner address
IsBracketed _ _ = ⊥

-- The text is this address (RFC 4291 2.2), where an IPv6 address may have brackets around it.
abbrev pub IsAddress : List ℕ → IpAddr → Type 0
IsAddress text address = IsIpText text address ⊎ IsBracketed (in_brackets text) address

-- The host that a text means: an address, or else a DNS name (RFC 9525 6.1.2).
abbrev pub IsHost : List ℕ → Host → Type 0
IsHost text (hosts.Address address) = IsAddress text address
IsHost text (hosts.Dns name) = (name.now ≡ text) × IsTrue (is_dns_name text)
    × ((address : IpAddr) → IsAddress text address → ⊥)

-- The bytes of an address, four or sixteen, as in an iPAddress (RFC 5280 4.2.1.6).
abbrev pub address_octets : IpAddr → List ℕ
address_octets (ips.V4 address) = ipv4_octets address
address_octets (ips.V6 address) = ipv6_octets address

-- The leftmost label isn't the only one.
abbrev pub has_more : List ℕ → Bool
has_more name = nat_lt (position_or_len is_dot name) (length name)

-- The leftmost label of the presented name is `*`, which matches the leftmost label of the host's
-- name. The other labels are equal but for case (RFC 9525 6.3).
abbrev pub is_wildcard_of : List ℕ → List ℕ → Bool
is_wildcard_of name presented =
    has_more name
    && (has_more presented
    && (bytes_eq (before_first is_dot presented) (codes "*")
    && str_eq_ignore_ascii_case (after_first is_dot presented) (after_first is_dot name)))

-- The presented dNSName matches the host: all labels are equal but for case, or the leftmost one is
-- a wildcard (RFC 9525 6.3).
abbrev pub is_name_of : Host → List ℕ → Bool
is_name_of (hosts.Dns name) presented =
    str_eq_ignore_ascii_case presented name.now || is_wildcard_of name.now presented
is_name_of (hosts.Address address) presented = false

-- The presented iPAddress is the host's address, byte for byte (RFC 9525 6.4).
abbrev pub is_address_of : Host → List ℕ → Bool
is_address_of (hosts.Dns name) presented = false
is_address_of (hosts.Address address) presented = bytes_eq (address_octets address) presented
