-- The wire form of names, and the faults of octets that encode no name.
use Rattle.std.specs.Prelude.{◌≡◌, ℕ, zero, suc, ◌==◌, [], ◌∷◌, length, take, drop, if◌then◌else◌, ◌≢◌, ◌+◌, ◌<◌, ◌≤◌, ◌++◌, codes}
use Rattle.std.specs.List.{AllByRecursion}
use Rattle.domain_octets.specs.{Octets.Octets, declared.error.ParseError.ParseError}
use Rattle.domain_names.specs.{Name.{wire_of, IsLabel, IsName, Name, Label}, declared.error.NameError.NameError}
use Rattle.domain_octets.specs.declared.error.ParseError.TheVariants as parse_error
use Rattle.domain_names.specs.declared.error.NameError.TheVariants as name_error

-- ---- names read from the wire

unfoldable pub labels_within : ℕ → Octets → Name
labels_within zero octets = []
labels_within (suc n) [] = []
labels_within (suc n) (len ∷ octets) =
    if len == 0 then [] else (take len octets ∷ labels_within n (drop len octets))

-- the labels up to the root
unfoldable pub labels_of : Octets → Name
labels_of octets = labels_within (length octets) octets

-- the octets are a name, and no octet follows it
pub record IsWire (octets : Octets) : Type 0 where
  pub spelled : octets ≡ wire_of (labels_of octets)
  pub valid : IsName (labels_of octets)

-- the octets begin with labels up to the root, and others follow; `used` octets of the name come
-- before them
unfoldable pub BeginsWithName : ℕ → Octets → Octets → Type 0
BeginsWithName used octets after =
    (labels : Name) × (octets ≡ wire_of labels ++ after) × AllByRecursion IsLabel labels
    × (used + length (wire_of labels) ≤ 255)

-- ---- the faults of a wire form (RFC 1035, sections 2.3.4 and 3.1)

pub data Fault : Type 0 where
  ends_early : Fault
  malformed : Octets → Fault

-- the fault that an error reports
abbrev pub fault_of : ParseError → Fault
fault_of parse_error.ShortInput = ends_early
fault_of (parse_error.Form text) = malformed text.now

abbrev pub name_fault_of : NameError → Fault
name_fault_of name_error.ShortInput = ends_early
name_fault_of name_error.BadLabel = malformed (codes "compressed or bad label")
name_fault_of name_error.LongName = malformed (codes "long domain name")

-- the first fault in octets that have to begin with a name; `used` octets of the name come before
-- them
pub data NameFault : ℕ → Octets → Fault → Type 0 where
  no_octet : {used : ℕ} → NameFault used [] ends_early
  bad_label : {used : ℕ} (len : ℕ) (after : Octets) → 63 < len
      → NameFault used (len ∷ after) (malformed (codes "compressed or bad label"))
  long_name : {used : ℕ} (len : ℕ) (after : Octets) → 0 < len → len ≤ 63 → 255 < used + len + 2
      → NameFault used (len ∷ after) (malformed (codes "long domain name"))
  cut_label : {used : ℕ} (len : ℕ) (after : Octets) → 0 < len → len ≤ 63
      → used + len + 2 ≤ 255 → length after < len → NameFault used (len ∷ after) ends_early
  past_label : {used : ℕ} (label : Label) (after : Octets) (fault : Fault) → 0 < length label
      → length label ≤ 63 → used + length label + 2 ≤ 255
      → NameFault (used + length label + 1) after fault
      → NameFault used (length label ∷ (label ++ after)) fault

-- the first fault in octets that have to be a name with no octet after it
pub data WholeNameFault : Octets → Fault → Type 0 where
  in_name : (octets : Octets) (fault : Fault) → NameFault 0 octets fault
      → WholeNameFault octets fault
  trailing : (labels : Name) (after : Octets) → IsName labels → after ≢ []
      → WholeNameFault (wire_of labels ++ after) (malformed (codes "trailing data"))
