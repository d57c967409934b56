-- The bytes of IP addresses in general names.
use Rattle.std.specs.Prelude.{ℕ, List}
use Rattle.std.specs.Net.Addr.{ipv4_octets, ipv6_octets}
use Rattle.std.specs.declared.net.ip_addr.IpAddr.{IpAddr}
use Rattle.std.specs.declared.net.ip_addr.IpAddr.TheVariants.{V4, V6}

-- The four bytes of an IPv4 address or the sixteen of an IPv6 address, in network byte order (RFC
-- 5280 4.2.1.6; RFC 791 3.1; RFC 4291 2).
abbrev pub address_octets : IpAddr → List ℕ
address_octets (V4 a) = ipv4_octets a
address_octets (V6 a) = ipv6_octets a
