-- Names as tokens.
use Rattle.std.proofs.Common.{◌≡◌, List, ℕ, refl, sym, ap, ◌∙◌, subst, true, false}
use Rattle.domain_names.specs.{Name.{Name, IsName, wire_of}, Wire.{IsWire, labels_of}}
use Rattle.domain_names.proofs.WireLemmas.{IsWire-wire_of, labels_of-wire_of}
use Rattle.domain_types.specs.Spelling.{NameField}
use Rattle.domain_types.specs.Reading.{TokenText, has_inner_quote, SpellsName}

-- the wire form of a name, and the labels in it
pub wire_is : (labels : Name) (octets : List ℕ) → IsName labels → octets ≡ wire_of labels → IsWire octets
wire_is labels octets valid is = subst IsWire (sym is) (IsWire-wire_of labels valid)

pub labels_are : (labels : Name) (octets : List ℕ) → IsName labels → octets ≡ wire_of labels → labels_of octets ≡ labels
labels_are labels octets valid is = ap labels_of is ∙ labels_of-wire_of labels valid

-- a token that spells no field spells no name
pub none_named : (origin : Name) (token : TokenText) → ((octets : List ℕ) → NameField origin token.octets octets → ⊥)
    → (name : Name) → SpellsName origin token name → ⊥
none_named origin token none name spells = none (wire_of name) (name, spells.spelled, refl)

-- nor does one with quotes in it
pub no_plain_name : (origin : Name) (token : TokenText) → has_inner_quote token ≡ true → (name : Name) → SpellsName origin token name → ⊥
no_plain_name origin token inner name spells = let e : true ≡ false = sym inner ∙ spells.plain in cc
