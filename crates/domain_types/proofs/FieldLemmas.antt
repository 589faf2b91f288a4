-- Fields of octets: where they end.
use Rattle.std.proofs.Common.{◌≡◌, ℕ, ◌<◌, ◌≤◌, List, ◌++◌, length, take, drop, sym, ap, ◌∙◌, subst, arith, length-append}
use Rattle.std.specs.Prelude.{slice_index}
use Rattle.std.proofs.lemmas.{Grind.common_steps, List.{take_at, drop_at, drop-take, get_or-take, get_or_append_left, take-append-drop, length-take}}
use Rattle.domain_octets.specs.Octets.{Place, Takes}
use Rattle.domain_names.specs.{Name.{Name, IsName, wire_of}, Wire.{IsWire, NameFault, Fault, labels_of}}
use Rattle.domain_names.proofs.WireLemmas.{IsWire-wire_of, no_name_fault}
use Rattle.domain_types.specs.Fields.{IsGateway, HasGateway, absent, ipv4, ipv6, named, IsTag, IsShape, IsField, BeginsWithNo}

-- ---- names

pub name_taken : (octets : List ℕ) (name : Name) (old new : Place) → Takes (wire_of name) old new → IsName name → old.left ≡ octets → old.pos ≡ 0
    → (new.pos ≤ length octets) × IsWire (take new.pos octets)
name_taken octets name old new takes valid left_is pos_is =
    let size : new.pos ≡ length (wire_of name) = omega (arith, takes.moved, pos_is) in
    let parts : octets ≡ wire_of name ++ new.left = sym left_is ∙ takes.parts in (
      omega (arith, size, ap length parts, length-append (wire_of name) new.left),
      subst IsWire (sym (ap (take new.pos) parts ∙ take_at (wire_of name) new.left new.pos (sym size))) (IsWire-wire_of name valid),
    )

pub no_name : (octets : List ℕ) (fault : Fault) → NameFault 0 octets fault → BeginsWithNo IsWire octets
no_name octets fault found part after is wire = no_name_fault octets fault found (labels_of part) after wire.valid (is ∙ ap (λ p. p ++ after) wire.spelled)

pub ruleset name_steps = (common_steps, name_taken, no_name)

pub ruleset gateway_steps = (common_steps, absent, ipv4, ipv6, named, drop-take)

-- ---- fields whose first octets say how many they are

-- the octets of a front are those of the whole
pub front_at : (part after : List ℕ) (i : ℕ) → i < length part → slice_index (part ++ after) i ≡ slice_index part i
front_at part after i below = get_or_append_left part after 0 i below

pub taken_at : (octets : List ℕ) (n i : ℕ) → i < n → slice_index (take n octets) i ≡ slice_index octets i
taken_at octets n i below = get_or-take n octets i 0 below

-- what follows the first octets of a gateway
pub gateway_in : (first kind : ℕ) (octets part after : List ℕ) → octets ≡ part ++ after → HasGateway first kind part
    → (first ≤ length octets → BeginsWithNo (IsGateway kind) (drop first octets)) → ⊥
gateway_in first kind octets part after is has none =
    let inside : first ≤ length octets = omega (arith, has.inside, ap length is, length-append part after) in
    none inside (drop first part) after (ap (drop first) is ∙ grind (arith, common_steps)) has.gateway

pub ruleset field_steps = (common_steps, front_at, taken_at, gateway_in)
