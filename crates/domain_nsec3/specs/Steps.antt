-- The steps of the generator: the names above a name, the hashes of all, and the links that join them.
use Rattle.std.specs.Prelude.{◌≡◌, ℕ, Bool, List, [], ◌∷◌, ◌++◌, length, nat_lt, if◌then◌else◌, ◌+◌, ◌<◌, map, None, Some, Ok, ◌⊎◌, slice_index_or, All, take}
use Rattle.std.specs.{Prelude.IsPermutation, List.{list_any, Sorted.IsStrictlySortedBy}, Ordering.nat_cmp, Cmp.Lexicographic.slice_cmp}
use Rattle.domain_names.specs.Name.{canonical_cmp, same_name, Name}
use Rattle.domain_zone.specs.Enclosers.{exists_over, is_empty_nonterminal}
use Rattle.domain_octets.specs.Octets.{Octets}
use Rattle.domain_base.specs.Classes.{in_class}
use Rattle.domain_chain_rdata.specs.declared.nsec3param.Nsec3param.{Nsec3param}
use Rattle.domain_hasher.specs.declared.error.Nsec3HashError.{Nsec3HashError, TheVariants.{OutOfMemory, CollisionDetected}}
use Rattle.domain_nsec3.specs.{Chain.{HashedLink, cycle, hashed_owner, Hash, HashAnswer, Parameters, hash_name, hash_fault}, View.parameters_of}
use Rattle.domain_nsec3.specs.declared.{chain.HashedChain.HashedChain, hash.Hashed.Hashed}

-- ---- The names above a name, and lists of names in canonical order.

-- the names above a name that have more than n labels, the shortest first
abbrev pub above_with_more : ℕ → Name → List Name
above_with_more n [] = []
above_with_more n (label ∷ x) = if nat_lt n (length x) then above_with_more n x ++ x ∷ [] else []

-- x is an empty non-terminal over these owners; if `with_owners` is true, x exists over them
abbrev pub is_over : Bool → List Name → Name → Name → Bool
is_over with_owners owners a x =
    if with_owners then exists_over owners a x else is_empty_nonterminal owners a x

-- these are exactly the names that pass the test, each once, in canonical order
pub record IsListOf (test : Name → Bool) (names : List Name) : Type 0 where
  pub ascend : IsStrictlySortedBy canonical_cmp names
  pub exactly : (x : Name) → list_any (λ n. same_name n x) names ≡ test x

-- ---- The steps of the generator: the empty non-terminals of owners, the hashes of all, and the links that
-- these make.

-- these owners, and then the empty non-terminals over them
pub record AreWithEmpty (a : Name) (owners names : List Name) : Type 0 where
  pub empty : List Name
  pub listed : IsListOf (is_empty_nonterminal owners a) empty
  pub are : names ≡ owners ++ empty

-- h is the hash of the name, and can be used
pub record IsHashed (a : Name) (hash : Hash) (n : Name) (h : Octets) : Type 0 where
  pub known : hash_name hash n ≡ Ok h
  pub sound : hash_fault a (Ok h) ≡ None
  pub octets : All (λ octet. octet < 256) h

-- the error is `OutOfMemory`, or says why the hash of the name cannot be used
abbrev pub IsRefusal : Name → HashAnswer → Nsec3HashError → Type 0
IsRefusal a answer e = (e ≡ OutOfMemory) ⊎ (hash_fault a answer ≡ Some e)

-- the name of a hash
abbrev pub name_at : List Name → Hashed → Name
name_at names h = slice_index_or names h.place []

-- h is the hash of one of these names, and can be used
pub record IsHashOf (a : Name) (hash : Hash) (names : List Name) (h : Hashed) : Type 0 where
  pub inside : h.place < length names
  pub is : IsHashed a hash (name_at names h) h.hash

-- h is this hash, which can be used, with the place of its name
pub record IsPlacedHash (a : Name) (hash : Octets) (place : ℕ) (h : Hashed) : Type 0 where
  pub there : h.place ≡ place
  pub is : h.hash ≡ hash
  pub sound : hash_fault a (Ok hash) ≡ None
  pub octets : All (λ octet. octet < 256) hash

-- the hashes of the first of these names, in their order
pub record AreFirstHashes (a : Name) (hash : Hash) (names : List Name) (hashed : List Hashed)
    : Type 0 where
  pub named : map (name_at names) hashed ≡ take (length hashed) names
  pub each : All (IsHashOf a hash names) hashed

-- the hashes of these names, in any order
pub record AreHashesOf (a : Name) (hash : Hash) (names : List Name) (hashed : List Hashed)
    : Type 0 where
  pub moved : IsPermutation names (map (name_at names) hashed)
  pub each : All (IsHashOf a hash names) hashed

-- e says why a hash of these names cannot be used, and the name is the first such name
pub record IsFirstRefused (a : Name) (hash : Hash) (names : List Name) (e : Nsec3HashError)
    : Type 0 where
  pub before : List Name
  pub name : Name
  pub after : List Name
  pub are : names ≡ before ++ name ∷ after
  pub sound : All (λ n. hash_fault a (hash_name hash n) ≡ None) before
  pub fault : hash_fault a (hash_name hash name) ≡ Some e

-- two neighbouring hashes are equal
pub record HasAlikeNeighbours (hashed : List Hashed) : Type 0 where
  pub place : ℕ
  pub inside : place + 1 < length hashed
  pub one : Hashed
  pub other : Hashed
  pub first : one ≡ slice_index_or hashed place one
  pub second : other ≡ slice_index_or hashed (place + 1) other
  pub alike : one.hash ≡ other.hash

-- the hashes of these names, in ascending order
pub record AreOrderedHashes (a : Name) (hash : Hash) (names : List Name) (hashed : List Hashed)
    : Type 0 where
  pub hashes : AreHashesOf a hash names hashed
  pub ascend : IsStrictlySortedBy (slice_cmp nat_cmp) (map (λ h. h.hash) hashed)

-- `OutOfMemory`, or the first fault of hashing these names: one hash cannot be used, or all can,
-- and two are equal
abbrev pub IsHashingFault : Name → Hash → List Name → Nsec3HashError → Type 0
IsHashingFault a hash names e =
    (e ≡ OutOfMemory)
    ⊎ (IsFirstRefused a hash names e ⊎ ((e ≡ CollisionDetected) × (ordered : List Hashed)
    × AreHashesOf a hash names ordered × HasAlikeNeighbours ordered))

-- all hashes of this chain can be used below this apex
abbrev pub AreUsable : Name → HashedChain → Type 0
AreUsable a chain = All (λ h. hash_fault a (Ok h.hash) ≡ None) chain.hashed.items

-- what the records of a chain have in common
pub record Common : Type 0 where
  pub ttl : ℕ
  pub parameters : Parameters
  pub flags : ℕ

abbrev pub common_of : {O : Type 0} → Nsec3param O → ℕ → Common
common_of p ttl = record { ttl = ttl; parameters = parameters_of p; flags = p.flags }

-- the link from a hash to the next one; `types` holds the types of the first names, and the other
-- names have none
abbrev pub link_to : Name → Common → List Octets → Hashed → Octets → HashedLink
link_to a p types h next = record {
  owner = hashed_owner a h.hash;
  next = next;
  class = in_class;
  ttl = p.ttl;
  parameters = p.parameters;
  flags = p.flags;
  bits = slice_index_or types h.place [];
}

-- the links of this chain below this apex
abbrev pub hashed_links_in : Name → HashedChain → Common → List HashedLink
hashed_links_in a chain p = map (λ q. link_to a p chain.types q.0 q.1.hash) (cycle chain.hashed.items)
