-- IPv6 addresses, EUI addresses and locators as text (RFC 4291, section 2.2; RFC 7043, sections 3.2
-- and 4.2; RFC 6742, sections 2.1 and 2.3).
use Rattle.std.specs.Prelude.{◌≡◌, ℕ, ◌+◌, ◌*◌, ◌<◌, ◌++◌, length, slice_index, slice_range, codes}
use Rattle.std.specs.{Int.{w16, to_be_bytes}, Net.{Grammar.{IsGroup, IsIpv6Text}, Addr.ipv6_octets}}
use Rattle.std.specs.declared.net.ipv6_addr.Ipv6Addr.{Ipv6Addr}
use Rattle.domain_octets.specs.{Octets.Octets, Text.dash}

-- an IPv6 address (RFC 4291, section 2.2)
abbrev pub LongAddressText : Octets → Octets → Type 0
LongAddressText text octets = (a : Ipv6Addr) × IsIpv6Text text a × (octets ≡ ipv6_octets a)

-- two digits in Base 16 for each octet, and a dash between two octets
pub record EuiText (count : ℕ) (text octets : Octets) : Type 0 where
  pub size : length text + 1 ≡ 3 * count
  pub full : length octets ≡ count
  pub digits : (i : ℕ) → i < count
      → IsGroup (slice_range text (3 * i) (3 * i + 2)) (slice_index octets i)
  pub dashes : (i : ℕ) → i + 1 < count → slice_index text (3 * i + 2) ≡ dash

-- the text begins with one to four digits in Base 16, which spell this number, and a colon
pub record BeginsWithGroup (text : Octets) (n : ℕ) (rest : Octets) : Type 0 where
  pub group : Octets
  pub parts : text ≡ group ++ (codes ":" ++ rest)
  pub number : IsGroup group n

-- four such numbers, with colons between them
pub record LocatorText (text octets : Octets) : Type 0 where
  pub a : ℕ
  pub after_a : Octets
  pub first : BeginsWithGroup text a after_a
  pub b : ℕ
  pub after_b : Octets
  pub second : BeginsWithGroup after_a b after_b
  pub c : ℕ
  pub after_c : Octets
  pub third : BeginsWithGroup after_b c after_c
  pub d : ℕ
  pub last : IsGroup after_c d
  pub value : octets ≡ to_be_bytes w16 a ++ to_be_bytes w16 b ++ to_be_bytes w16 c
      ++ to_be_bytes w16 d
