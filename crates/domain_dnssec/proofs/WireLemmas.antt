-- Chains as octets, record by record.
use Rattle.std.proofs.{lemmas.Grind.common_steps, Common.{◌≡◌, ℕ, ◌+◌, ◌<◌, ◌≤◌, List, ◌∷◌, ◌++◌, length, take, get_or, arith, length-append}}
use Rattle.std.specs.List.{flat_map}
use Rattle.domain_fields.specs.Layout.{octets_of, Values}
use Rattle.domain_chain_rdata.specs.Rdata.{hash_numbers, nsec3param_layout}
use Rattle.domain_borrowed.specs.Data.{RawRecord}
use Rattle.domain_dnssec.specs.{Wire.{HasLong, IsUncomposed}, declared.error.Error.Error}

-- one more item after what stood
pub onward : {T : Type 0} (octets : T → List ℕ) (old : List ℕ) (items : List T) (i : ℕ) (d : T) → i < length items
    → (old ++ flat_map octets (take i items)) ++ octets (get_or items i d) ≡ old ++ flat_map octets (take (i + 1) items)
onward octets old items i d l = grind (arith, common_steps)

-- NSEC3PARAM data are short
pub param_short : (v : Values nsec3param_layout) → length v.1 ≤ 255 → length (octets_of nsec3param_layout v) ≤ 65535
unfolding octets_of
param_short v salted = let c = length-append (octets_of hash_numbers v.0) (length v.1 ∷ v.1) in omega arith

-- a record of a chain whose data are too long
pub long_record : {K : Type 0} (raw : K → RawRecord) (links : List K) (i : ℕ) (k : K) → i < length links → k ≡ get_or links i k → (e y : Error)
    → y ≡ e → IsUncomposed (65535 < length (raw k).«data».octets) e → IsUncomposed (HasLong raw links) y
long_record raw links i k l is e y same h = grind (arith, common_steps)
