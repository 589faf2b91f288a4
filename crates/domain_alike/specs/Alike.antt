-- Names of an NSEC3 chain that have the same hash (RFC 5155, section 7.1).
use Rattle.std.specs.{Prelude.{◌≡◌, ◌⊎◌, ℕ, true, false, All, List, Ok, Err, Option, Some, None, map, Bool, [], ◌∷◌, filter, Vec}, List.{list_any, find}}
use Rattle.std.specs.{List.{flat_map, AllByRecursion, Sorted.IsStrictlySortedBy}, BTreeMap.BTreeMap, Cmp.Lexicographic.slice_cmp, Ordering.{is_eq, nat_cmp}}
use Rattle.domain_octets.specs.Octets.{Octets}
use Rattle.domain_hasher.specs.declared.error.Nsec3HashError.{Nsec3HashError}
use Rattle.domain_names.specs.Name.{same_name, before, canonical_cmp, Name}
use Rattle.domain_nsec3.specs.Chain.{ChainConfig, hash_of, Hash, HashAnswer, hash_name, HasCollision, is_chain_name}
use Rattle.domain_zone.specs.Zone.{ZoneRecord}
use Rattle.domain_alike.specs.declared.alike.Alike.{Alike}
use Rattle.domain_hasher.specs.declared.error.Nsec3HashError.TheVariants as hash_error
use Rattle.std.specs.BTreeMap as tree

-- a name, and another name that has its hash
abbrev pub Pair : Type 0
Pair = Name × Name

abbrev pub pair_of : Alike → Pair
pair_of alike = (alike.later, alike.first)

-- a name of the chain, and the first name that has its hash, which comes before it in canonical
-- order
pub record IsAlike (L : List ZoneRecord) (a : Name) (config : ChainConfig) (pair : Pair)
    : Type 0 where
  pub later : is_chain_name L a config pair.0 ≡ true
  pub earlier : is_chain_name L a config pair.1 ≡ true
  pub alike : hash_of config pair.1 ≡ hash_of config pair.0
  pub apart : before pair.1 pair.0 ≡ true
  pub first : (y : Name) → is_chain_name L a config y ≡ true
      → hash_of config y ≡ hash_of config pair.0 → before y pair.1 ≡ false

-- such pairs, in canonical order, one for each name of the chain that has the hash of an earlier
-- name
pub record AreAlike (L : List ZoneRecord) (a : Name) (config : ChainConfig) (pairs : List Pair)
    : Type 0 where
  pub told : All (IsAlike L a config) pairs
  pub each : (x y : Name) → is_chain_name L a config x ≡ true → is_chain_name L a config y ≡ true
      → before y x ≡ true → hash_of config y ≡ hash_of config x
      → list_any (λ p. same_name p.0 x) pairs ≡ true
  pub ascend : IsStrictlySortedBy canonical_cmp (map (λ p. p.0) pairs)

-- the hasher returns a hash for each name of the chain
abbrev pub AreHashed : List ZoneRecord → Name → ChainConfig → Type 0
AreHashed L a config =
    (x : Name) → is_chain_name L a config x ≡ true → (h : Octets) × (hash_of config x ≡ Ok h)

-- such a pair, whose name is the first in canonical order that has the hash of an earlier name
pub record IsFirstAlike (L : List ZoneRecord) (a : Name) (config : ChainConfig) (pair : Pair)
    : Type 0 where
  pub alike : IsAlike L a config pair
  pub least : (x y : Name) → is_chain_name L a config x ≡ true → is_chain_name L a config y ≡ true
      → before y x ≡ true → hash_of config y ≡ hash_of config x → before x pair.0 ≡ false

-- this is the first pair, or there is none and no two names of the chain have the same hash
abbrev pub IsFirstPair : List ZoneRecord → Name → ChainConfig → Option Pair → Type 0
IsFirstPair L a config None = ¬ (HasCollision L a config)
IsFirstPair L a config (Some pair) = IsFirstAlike L a config pair

-- the hasher returns this error for a name of the chain, and a hash for each name before it
pub record IsFirstChainRefusal (L : List ZoneRecord) (a : Name) (config : ChainConfig) (number : ℕ)
    : Type 0 where
  pub name : Name
  pub in_chain : is_chain_name L a config name ≡ true
  pub refused : hash_of config name ≡ Err number
  pub first : (y : Name) → is_chain_name L a config y ≡ true → before y name ≡ true
      → (h : Octets) × (hash_of config y ≡ Ok h)

-- out of memory, or the hasher's error with a number for which `refused` holds
abbrev pub IsRefusedBy : (ℕ → Type 0) → Nsec3HashError → Type 0
IsRefusedBy refused e =
    (e ≡ hash_error.OutOfMemory) ⊎ ((n : ℕ) × (e ≡ hash_error.Hasher n) × refused n)

-- ---- The names of a list that have the same hash, and how they are found.

-- the hasher's result is this hash
abbrev pub is_hash : HashAnswer → Octets → Bool
is_hash (Ok g) h = is_eq (slice_cmp nat_cmp g h)
is_hash (Err n) h = false

-- the first of these names that has the hash, if the hasher's result is one
abbrev pub first_with : Hash → List Name → HashAnswer → Option Name
first_with hash names (Ok h) = find (λ n. is_hash (hash_name hash n) h) names
first_with hash names (Err n) = None

-- the map has for each hash the first of these names that has it
abbrev pub AreFirstNames : {A : Type 0} → Hash → List Name → BTreeMap (Vec ℕ A) Name → Type 0
AreFirstNames hash names firsts =
    (k : Vec ℕ _) → tree.get (λ x y. slice_cmp nat_cmp x.items y.items) firsts k
    ≡ first_with hash names (Ok k.items)

-- the first of these names that comes before n and has its hash
abbrev pub first_before : Hash → List Name → Name → Option Name
first_before hash names n = first_with hash (filter (λ y. before y n) names) (hash_name hash n)

-- n with a name that has its hash, if there is one
abbrev pub pair_with : Name → Option Name → List Pair
pair_with n None = []
pair_with n (Some first) = (n, first) ∷ []

abbrev pub HasHash : Hash → Name → Type 0
HasHash hash n = (h : Octets) × (hash_name hash n ≡ Ok h)

-- these are the pairs of the names `some`, each of which has a hash
pub record ArePairs (hash : Hash) (names some : List Name) (pairs : List Pair) : Type 0 where
  pub hashed : AllByRecursion (HasHash hash) some
  pub are : pairs ≡ flat_map (λ n. pair_with n (first_before hash names n)) some
