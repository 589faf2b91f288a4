-- What a zone with an NSEC3 chain says of a name and a type, and what some of its records prove.
use Rattle.std.specs.{List.{list_all, find, list_any}, Option.option_map_or, Prelude.{Bool, false, ◌&&◌, ◌==◌, [], ◌∷◌, length, bytes_eq}}
use Rattle.std.specs.Prelude.{Option, Some, None, if◌then◌else◌, List, ℕ, true, not, ◌||◌, ◌+◌, ◌≡◌, All, Ok, Err, ◌<◌}
use Rattle.domain_codecs.specs.Codec.{is_digit, is_base32_length, base32_octets, base32_digits, IsBase32}
use Rattle.domain_codecs.specs.{declared.codec.Codec.TheVariants.Base32Hex, Base32.base32_lower}
use Rattle.domain_octets.specs.Octets.{Octets, AreOctets}
use Rattle.domain_names.specs.Name.{same_name, is_at_or_below, is_strictly_below, last_labels, Label, Name}
use Rattle.domain_zone.specs.{Covering.{matches, covers}, Enclosers.exists_over, Zone.{ZoneRecord, is_zone_cut}}
use Rattle.domain_nsec3.specs.Chain.{HashedLink, IsHashedChain, Parameters, ChainConfig, Hash, HashAnswer, hash_name, is_original_owner}
use Rattle.domain_nsec3.specs.{Chain.{nsec3_lists, original_owners, is_chain_name}, Meaning.{octets_before, AreAlone, HashedMeansTheZone}}
use Rattle.domain_nsec3.specs.{View.{HasherAnswer, hash_by, hashed_links_of, parameters_of}, declared.nsec3.Nsec3Records.Nsec3Records}
use Rattle.domain_base.specs.Types.{ns}
use Rattle.domain_bitmap.specs.{Blocks.{contains_type, types_below, types_of}, Bitmap.bitmap_octets}
use Rattle.domain_chain_rdata.specs.Rdata.{is_opt_out}
use Rattle.domain_checker.specs.{Verdict.{IsHashedAlike, IsPairedIn, closest_encloser, types_verdict}, declared.verdict.Verdict.Verdict}
use Rattle.domain_checker.specs.declared.verdict.Verdict.TheVariants.{OutsideZone, BelowDelegation, EmptyName, OptOut, NoName, NotProven}

-- ---- What NSEC3 records say of hashes, from whatever source (RFC 5155, section 3); a is the apex.

-- the same algorithm, iterations and salt
abbrev pub same_parameters : Parameters → Parameters → Bool
same_parameters p q =
    (p.algorithm == q.algorithm) && (p.iterations == q.iterations) && bytes_eq p.salt q.salt

-- the label is Base 32 hex, in either case (RFC 4648, section 7)
abbrev pub is_spelling : Label → Bool
is_spelling label = list_all (is_digit Base32Hex) label && is_base32_length (length label)

-- the octets that such digits encode
abbrev pub read_label : Label → Octets
read_label label = base32_octets 1 0 (base32_digits label)

-- the hash that an owner encodes in its one label before the apex
abbrev pub hash_in : Name → Name → Option Octets
hash_in a [] = None
hash_in a (label ∷ above) =
    if same_name above a && is_spelling label then Some (read_label label) else None

-- the hash of a record's owner; None if the record has other parameters, or an owner of another
-- form: then it is ignored
abbrev pub owner_hash : Name → Parameters → HashedLink → Option Octets
owner_hash a p k = if same_parameters k.parameters p then hash_in a k.owner else None

-- a record that is not ignored matches the hash v; covers it
abbrev pub is_hash_match : Name → Parameters → Octets → HashedLink → Bool
is_hash_match a p v k = option_map_or (λ h. matches octets_before h v) (owner_hash a p k) false

abbrev pub is_hash_cover : Name → Parameters → Octets → HashedLink → Bool
is_hash_cover a p v k =
    option_map_or (λ h. covers octets_before h k.next v) (owner_hash a p k) false

-- ---- How NSEC3 records and their parameters are seen.

-- NSEC3 records as they are read: what they link, the apex of their zone, the parameters that they
-- must have, and the hasher's answers with these parameters
pub record HashedRecords : Type 0 where
  pub links : List HashedLink
  pub apex : Name
  pub parameters : Parameters
  pub hash : Hash

-- other links, read in the same way
abbrev pub with_links : HashedRecords → List HashedLink → HashedRecords
with_links R links = record R { links = links }

-- the first record that matches the hash v; that covers it
abbrev pub first_match : HashedRecords → Octets → Option HashedLink
first_match R v = find (is_hash_match R.apex R.parameters v) R.links

abbrev pub first_cover : HashedRecords → Octets → Option HashedLink
first_cover R v = find (is_hash_cover R.apex R.parameters v) R.links

abbrev pub parameters : {N O : Type 0} → Nsec3Records N O → Parameters
parameters records = parameters_of records.nsec3param.«data»

abbrev pub links : {N O : Type 0} → (N → Name) → Nsec3Records N O → List HashedLink
links labels records = hashed_links_of labels records.nsec3s.items

-- the hashes of a hasher with the parameters of these records
abbrev pub hash_with : {N O : Type 0} → HasherAnswer → Nsec3Records N O → Hash
hash_with answer records = hash_by answer (parameters records)

-- links as they are read with a hasher and these parameters
abbrev pub links_with : Name → Parameters → HasherAnswer → List HashedLink → HashedRecords
links_with a p answer listed =
    record { links = listed; apex = a; parameters = p; hash = hash_by answer p }

-- records that are passed to a function, as they are read with labels and a hasher
abbrev pub hashed_records : {N O : Type 0} → Name → (N → Name) → HasherAnswer → Nsec3Records N O
    → HashedRecords
hashed_records a labels answer records =
    links_with a (parameters records) answer (links labels records)

-- records of a zone's chain, with the hashes and parameters of the chain
abbrev pub chain_records : Name → ChainConfig → List HashedLink → HashedRecords
chain_records a config listed =
    record { links = listed; apex = a; parameters = config.parameters; hash = config.hash }

-- ---- What a zone with an NSEC3 chain says of a name and a type, and what a list of records proves
-- of it (RFC 5155, section 8); a is the apex, x the name and t the type.

-- x is strictly below a zone cut that the chain holds
abbrev pub is_below_chain_cut : List ZoneRecord → Name → ChainConfig → Name → Bool
is_below_chain_cut L a config x =
    list_any (λ n. is_zone_cut L a n && is_strictly_below x n) (original_owners L a config)

-- the verdict on a name whose next closer name is covered; the number counts the labels of its
-- closest encloser
abbrev pub missing_verdict : Bool → ℕ → Verdict
missing_verdict opt_out count = if opt_out then OptOut count else NoName count

-- the first that holds: x is outside the zone, is strictly below a zone cut of the chain, is an
-- original owner name, is an empty non-terminal above such names, or does not exist
abbrev pub hashed_zone_verdict : List ZoneRecord → Name → ChainConfig → Name → ℕ → Verdict
hashed_zone_verdict L a config x t =
    if not (is_at_or_below x a) then OutsideZone
    else if is_below_chain_cut L a config x then BelowDelegation
    else if is_original_owner L a config x
    then types_verdict (is_zone_cut L a x) (nsec3_lists L a config x) t
    else if exists_over (original_owners L a config) a x then EmptyName
    else missing_verdict (is_opt_out config.flags)
    (length (closest_encloser (original_owners L a config) a x))

-- the name one label longer than e, an ancestor of x, towards x (RFC 5155, section 1.3)
abbrev pub next_closer : Name → Name → Name
next_closer x e = last_labels (length e + 1) x

abbrev pub is_ok_with : (Octets → Bool) → HashAnswer → Bool
is_ok_with test (Ok v) = test v
is_ok_with test (Err n) = false

-- a record of the list matches the hash of the name n; covers it
abbrev pub is_matched : HashedRecords → Name → Bool
is_matched R n =
    is_ok_with (λ v. list_any (is_hash_match R.apex R.parameters v) R.links) (hash_name R.hash n)

abbrev pub is_covered : HashedRecords → Name → Bool
is_covered R n =
    is_ok_with (λ v. list_any (is_hash_cover R.apex R.parameters v) R.links) (hash_name R.hash n)

-- the list proves what the zone says of x: a record matches the closest encloser and, unless that
-- is x or a zone cut, one covers the next closer name
abbrev pub proves : List ZoneRecord → Name → ChainConfig → List HashedLink → Name → Bool
proves L a config listed x =
    let e = closest_encloser (original_owners L a config) a x in
    is_matched (chain_records a config listed) e
    && (same_name e x || is_zone_cut L a e
    || is_covered (chain_records a config listed) (next_closer x e))

abbrev pub hashed_proved_verdict : List ZoneRecord → Name → ChainConfig → List HashedLink → Name → ℕ
    → Verdict
hashed_proved_verdict L a config listed x t =
    if not (is_at_or_below x a) || proves L a config listed x
    then hashed_zone_verdict L a config x t else NotProven

-- the verdict is what these records, in any order, with repeats, prove about any zone whose chain
-- they are from. TTLs, classes and the case of letters may differ. No other name of the chain has
-- the hash of x or of an ancestor at or below the apex.
abbrev pub IsHashedProved : HashedRecords → Name → ℕ → Verdict → Type 0
IsHashedProved R x t verdict =
    (L : List ZoneRecord) (config : ChainConfig) (links : List HashedLink)
    → config.hash ≡ R.hash → config.parameters ≡ R.parameters
    → IsHashedChain L R.apex config links → AreAlone L R.apex config x
    → All (IsPairedIn IsHashedAlike links) R.links
    → verdict ≡ hashed_proved_verdict L R.apex config R.links x t

-- ---- any list of records

-- for each name from x up to d, d not included, the hasher has a hash, and no record matches it
abbrev pub AreUnmatchedBelow : HashedRecords → Name → Name → Type 0
AreUnmatchedBelow R x d =
    (y : Name) → is_at_or_below x y ≡ true → is_strictly_below y d ≡ true
    → (v : Octets) × (hash_name R.hash y ≡ Ok v) × (is_matched R y ≡ false)

-- d is the first of x and its ancestors at or below the apex that a record matches
pub record IsFirstMatched (R : HashedRecords) (x d : Name) : Type 0 where
  pub above : is_at_or_below x d ≡ true
  pub within : is_at_or_below d R.apex ≡ true
  pub found : is_matched R d ≡ true
  pub first : AreUnmatchedBelow R x d

-- d is not the apex, and the first record that matches it lists NS
abbrev pub is_told_cut : HashedRecords → Name → Bool
is_told_cut R d =
    not (same_name d R.apex)
    && is_ok_with (λ v. option_map_or (λ k. contains_type k.bits ns) (first_match R v) false)
    (hash_name R.hash d)

-- a record matches x or an ancestor at or below the apex and, unless the first such name is x or is
-- a zone cut by its record, one covers the name one label longer
pub record HasHashedProof (R : HashedRecords) (x : Name) : Type 0 where
  pub longest : Name
  pub first : IsFirstMatched R x longest
  pub closes : (same_name longest x || is_told_cut R longest
      || is_covered R (next_closer x longest)) ≡ true

-- the hasher fails for x or an ancestor at or below the apex, and for each name before it has a
-- hash that no record matches
pub record IsFirstRefusal (R : HashedRecords) (x : Name) (reason : ℕ) : Type 0 where
  pub name : Name
  pub above : is_at_or_below x name ≡ true
  pub within : is_at_or_below name R.apex ≡ true
  pub refused : hash_name R.hash name ≡ Err reason
  pub first : AreUnmatchedBelow R x name

-- ---- The laws of NSEC3 chains, of their names and of Base 32, for each chain.

-- the laws of one chain
pub record ChainFacts (L : List ZoneRecord) (a : Name) (config : ChainConfig)
    (links : List HashedLink) : Type 0 where
  pub chain : IsHashedChain L a config links
  pub means : HashedMeansTheZone L a config links
  pub exist : (x : Name) → is_at_or_below x a ≡ true
      → exists_over (original_owners L a config) a x ≡ is_chain_name L a config x
  pub left_out : (c : Name) → is_zone_cut L a c ≡ true → is_original_owner L a config c ≡ false
      → is_chain_name L a config c ≡ false
  pub alike : (x y : Name) → same_name x y ≡ true → (t : ℕ)
      → nsec3_lists L a config x t ≡ nsec3_lists L a config y t
  pub reads_back : (octets : Octets) → AreOctets octets → IsBase32 (base32_lower octets) octets
  pub contains : (types : ℕ → Bool) (t : ℕ) → t < 65536
      → contains_type (bitmap_octets types) t ≡ types t
  pub gives : (types : ℕ → Bool) → types_of (bitmap_octets types) ≡ types_below 65536 types
  pub tells_apart : (u v : Octets) → AreOctets u → AreOctets v
      → base32_lower u ≡ base32_lower v → u ≡ v

-- the laws of every chain
abbrev pub ChainsAreKnown : Type 0
ChainsAreKnown =
    (L : List ZoneRecord) (a : Name) (config : ChainConfig) (links : List HashedLink)
    → IsHashedChain L a config links → ChainFacts L a config links
