-- names in a message, where the end of a name may be at an earlier place, and why a place holds no
-- name (RFC 1035, section 4.1.4)
use Rattle.std.specs.Prelude.{◌≡◌, ℕ, ◌+◌, ◌/◌, ◌%◌, ◌<◌, ◌≤◌, [], ◌∷◌, ◌++◌, length, drop, Result, Ok, Err}
use Rattle.domain_octets.specs.Octets.{Octets}
use Rattle.domain_names.specs.Name.{IsLabel, IsName, Name}
use Rattle.domain_message.specs.declared.name.NameFault.{NameFault}
use Rattle.domain_message.specs.declared.name.NameFault.TheVariants as name_fault

-- a pointer to a place: two set bits, and the place in 14 bits
abbrev pub pointer_octets : ℕ → Octets
pointer_octets target = (192 + target / 256) ∷ (target % 256) ∷ []

-- a pointer from labels at place `at` to an earlier place
pub record IsBackward (at target : ℕ) : Type 0 where
  pub earlier : target < at
  pub fits : target < 16384

-- the fault after labels that began at place `at`, if `used` octets of the name have been read
pub data EndFault (at used : ℕ) : Octets → NameFault → Type 0 where
  no_octet : EndFault at used [] name_fault.ShortInput
  half_pointer : (high : ℕ) → 192 ≤ high → EndFault at used (high ∷ []) name_fault.ShortInput
  bad_type : (len : ℕ) (after : Octets) → 63 < len → len < 192
      → EndFault at used (len ∷ after) name_fault.BadLabelType
  not_backward : (target : ℕ) (after : Octets) → at ≤ target
      → EndFault at used (pointer_octets target ++ after) name_fault.ForwardPointer
  long_name : (len : ℕ) (after : Octets) → 0 < len → len ≤ 63 → 255 < used + len + 2
      → EndFault at used (len ∷ after) name_fault.LongName
  cut_label : (len : ℕ) (after : Octets) → 0 < len → len ≤ 63 → used + len + 2 ≤ 255
      → length after < len → EndFault at used (len ∷ after) name_fault.ShortInput

-- the result of reading labels at a place: the labels and the place after them, or their first
-- fault
abbrev pub Outcome : Type 0
Outcome = Result (Name × ℕ) NameFault

-- the result with these labels in front
abbrev pub behind : Name → Outcome → Outcome
behind labels (Ok r) = Ok (labels ++ r.0, r.1)
behind labels (Err fault) = Err fault

-- the result with this place as the place after the labels
abbrev pub up_to : ℕ → Outcome → Outcome
up_to end (Ok r) = Ok (r.0, end)
up_to end (Err fault) = Err fault

-- the result of labels that began at place `start` and continue at place `at`, after `used` octets
-- of the name; there is the root, a label with room for the root after it, a pointer to an earlier
-- place where they continue, or a fault
pub data ComesTo (message : Octets) : ℕ → ℕ → ℕ → Outcome → Type 0 where
  root : (start at used : ℕ) (after : Octets) → drop at message ≡ 0 ∷ after
      → ComesTo message start at used (Ok ([], at + 1))
  label : (start at used : ℕ) (label after : Octets) (rest : Outcome) → IsLabel label
      → drop at message ≡ length label ∷ (label ++ after) → used + length label + 2 ≤ 255
      → ComesTo message start (at + 1 + length label) (used + 1 + length label) rest
      → ComesTo message start at used (behind (label ∷ []) rest)
  pointer : (start at used target : ℕ) (after : Octets) (rest : Outcome)
      → drop at message ≡ pointer_octets target ++ after → IsBackward start target
      → ComesTo message target target used rest
      → ComesTo message start at used (up_to (at + 2) rest)
  at_fault : (start at used : ℕ) (fault : NameFault) → EndFault start used (drop at message) fault
      → ComesTo message start at used (Err fault)

-- the message holds this name from place `at` up to place `end`
pub record NameAt (message : Octets) (at : ℕ) (name : Name) (end : ℕ) : Type 0 where
  pub stands : ComesTo message at at 0 (Ok (name, end))
  pub valid : IsName name

-- the first fault of the labels at a place, after `used` octets of the name
abbrev pub LabelsFault : Octets → ℕ → ℕ → NameFault → Type 0
LabelsFault message at used fault = ComesTo message at at used (Err fault)
