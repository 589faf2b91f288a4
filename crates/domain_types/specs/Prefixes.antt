-- Prefixes of addresses as text (RFC 3123, section 5).
use Rattle.std.specs.Prelude.{◌≡◌, ◌≢◌, ℕ, ◌+◌, ◌*◌, ◌<◌, ◌≤◌, ◌∷◌, ◌++◌, length, slice_index}
use Rattle.std.specs.{Int.{w16, to_be_bytes}, Net.Grammar.IsDotted}
use Rattle.domain_octets.specs.{Octets.Octets, Text.slash}
use Rattle.domain_base.specs.Scan.{IsNumber}
use Rattle.domain_types.specs.Addresses.{LongAddressText}

abbrev pub colon : ℕ
colon = 58

abbrev pub exclamation_mark : ℕ
exclamation_mark = 33

-- the octet is not among these
abbrev pub Lacks : ℕ → Octets → Type 0
Lacks mark octets = (i : ℕ) → i < length octets → slice_index octets i ≢ mark

-- the first such mark of a text is between these, or the last one
pub record SplitsFirst (mark : ℕ) (text front back : Octets) : Type 0 where
  pub parts : text ≡ front ++ (mark ∷ back)
  pub lacks : Lacks mark front

pub record SplitsLast (mark : ℕ) (text front back : Octets) : Type 0 where
  pub parts : text ≡ front ++ (mark ∷ back)
  pub lacks : Lacks mark back

-- the text spells an address of this family: 1 is IPv4, and 2 is IPv6
pub data FamilyAddress : ℕ → Octets → Octets → Type 0 where
  family_ipv4 : (family : ℕ) (text octets : Octets) → family ≡ 1 → IsDotted text octets
      → FamilyAddress family text octets
  family_ipv6 : (family : ℕ) (text octets : Octets) → family ≡ 2 → LongAddressText text octets
      → FamilyAddress family text octets

-- the octets without the zero octets at their end
pub record IsTrimmed (octets kept : Octets) : Type 0 where
  pub zeros : Octets
  pub parts : octets ≡ kept ++ zeros
  pub all : (i : ℕ) → slice_index zeros i ≡ 0
  pub last : (i : ℕ) → i + 1 ≡ length kept → slice_index kept i ≢ 0

-- a family, a colon, an address, a slash, and the length of the prefix in bits; on the wire the bit
-- for negation is beside the number of octets of the address
pub record ItemText (negation : ℕ) (text octets : Octets) : Type 0 where
  pub family_text : Octets
  pub after_colon : Octets
  pub colon_is : SplitsFirst colon text family_text after_colon
  pub family : ℕ
  pub family_is : IsNumber 16 family_text family
  pub address_text : Octets
  pub size_text : Octets
  pub slash_is : SplitsLast slash after_colon address_text size_text
  pub address : Octets
  pub address_is : FamilyAddress family address_text address
  pub size : ℕ
  pub size_is : IsNumber 8 size_text size
  pub inside : size ≤ 8 * length address
  pub kept : Octets
  pub kept_is : IsTrimmed address kept
  pub wire : octets ≡ to_be_bytes w16 family
      ++ (size ∷ (128 * negation + length kept) ∷ kept)

-- such a text, or one after an exclamation mark, which negates it
pub data PrefixText : Octets → Octets → Type 0 where
  plain_prefix : (text octets : Octets) → ItemText 0 text octets → PrefixText text octets
  negated_prefix : (text item octets : Octets) → text ≡ exclamation_mark ∷ item
      → ItemText 1 item octets → PrefixText text octets
