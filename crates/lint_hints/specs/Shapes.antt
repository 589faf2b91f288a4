-- Octets that encode data of their type, for types whose data are not read.
use Rattle.std.specs.Prelude.{◌≡◌, ℕ, ◌+◌, ◌-◌, ◌<◌, ◌≤◌, ◌==◌, Bool, not, ◌||◌, [], ◌∷◌, drop, length, nat_lt, slice_index, if◌then◌else◌}
use Rattle.domain_octets.specs.Octets.{Octets}
use Rattle.domain_names.specs.Wire.{IsWire}
use Rattle.lint_hints.specs.declared.odd.Shape.{Shape, TheVariants.{OneName, Texts, LongAddress, Service, Certificate, Issuers, Whatever}}
use Rattle.domain_base.specs.Types as rtypes

-- the shape of the data of a type: CNAME, PTR and DNAME (RFC 1035, sections 3.3.1 and 3.3.12; RFC
-- 6672); TXT and SPF (RFC 1035, section 3.3.14; RFC 7208); AAAA (RFC 3596); SRV (RFC 2782); TLSA
-- (RFC 6698); and CAA (RFC 8659)
abbrev pub data_shape : ℕ → Shape
data_shape t =
    if (t == rtypes.cname) || ((t == rtypes.ptr) || (t == rtypes.dname)) then OneName
    else if (t == rtypes.txt) || (t == 99) then Texts
    else if t == rtypes.aaaa then LongAddress
    else if t == rtypes.srv then Service
    else if t == 52 then Certificate
    else if t == 257 then Issuers
    else Whatever

-- the number of octets of a text that must follow these octets, if `left` octets of it must come
-- first; texts follow one another, each after its length octet
abbrev pub to_come : ℕ → Octets → ℕ
to_come left [] = left
to_come left (octet ∷ octets) = to_come (if left == 0 then octet else left - 1) octets

-- the octets are such texts, and at least one
pub record AreTexts (octets : Octets) : Type 0 where
  pub whole : to_come 0 octets ≡ 0
  pub some : 0 < length octets

-- CAA data: an octet of flags, an octet with the length of the tag, which is at least 1, and the
-- tag, which does not go past the data (RFC 8659, section 4.1)
pub record HaveTag (octets : Octets) : Type 0 where
  pub some : 0 < slice_index octets 1
  pub within : 2 + slice_index octets 1 ≤ length octets

-- the octets have the shape
abbrev pub IsSuch : Shape → Octets → Type 0
IsSuch OneName octets = IsWire octets
IsSuch Texts octets = AreTexts octets
IsSuch LongAddress octets = length octets ≡ 16
IsSuch Service octets = (6 < length octets) × IsWire (drop 6 octets)
IsSuch Certificate octets = 3 < length octets
IsSuch Issuers octets = HaveTag octets
IsSuch Whatever octets = Unit {0}

-- NSEC3PARAM data have additional iterations or a salt (RFC 5155, section 4.2): after algorithm and
-- flags the data have the number of iterations in two octets, and the length of the salt
abbrev pub has_extras : Octets → Bool
has_extras octets =
    nat_lt (length octets) 5
    || (not (slice_index octets 2 == 0)
    || (not (slice_index octets 3 == 0) || not (slice_index octets 4 == 0)))
