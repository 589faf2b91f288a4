-- What a zone with an NSEC chain says of a name and a type, the laws that hold of each chain, and
-- records that are alike.
use Rattle.std.specs.{Prelude.{◌≡◌, ◌<◌, ℕ, Bool, true, List, [], ◌∷◌, false, not, ◌&&◌, ◌||◌, ◌==◌, ◌≤◌, All, length, if◌then◌else◌}, List.Contains}
use Rattle.std.specs.List.{list_any}
use Rattle.domain_names.specs.Name.{same_name, is_at_or_below, Name, before}
use Rattle.domain_bitmap.specs.{Bitmap.bitmap_octets, Blocks.contains_type}
use Rattle.domain_zone.specs.{Zone.{OwnersNeverDescend, ZoneRecord, is_occluded, is_zone_cut, unoccluded_owners}, Covering.matches_or_covers}
use Rattle.domain_zone.specs.Enclosers.{exists_over, is_empty_nonterminal}
use Rattle.domain_nsec.specs.{Chain.{IsChain, Link, nsec_lists}, Meaning.MeansTheZone, declared.config.GenerateNsecConfig.GenerateNsecConfig}
use Rattle.domain_nsec3.specs.Chain.{HashedLink}
use Rattle.domain_base.specs.Types.{ds}
use Rattle.domain_checker.specs.declared.verdict.Verdict.{Verdict, TheVariants.{OutsideZone, BelowDelegation, Has, NoType, EmptyName, OptOut, NoName}}
use Rattle.domain_checker.specs.declared.verdict.Verdict.TheVariants.{NotProven}

-- ---- The laws of NSEC chains, of their types and of bitmaps, for each chain.

-- the laws of one chain
pub record NsecFacts (L : List ZoneRecord) (a : Name) (config : GenerateNsecConfig)
    (links : List Link) : Type 0 where
  pub chain : IsChain L a config links
  pub means : MeansTheZone L a config links
  pub alike : (x y : Name) → same_name x y ≡ true → (t : ℕ)
      → nsec_lists L a config.assume_dnskeys_will_be_added x t
      ≡ nsec_lists L a config.assume_dnskeys_will_be_added y t
  pub contains : (types : ℕ → Bool) (t : ℕ) → t < 65536
      → contains_type (bitmap_octets types) t ≡ types t

-- the laws of every chain
abbrev pub NsecChainsAreKnown : Type 0
NsecChainsAreKnown =
    (L : List ZoneRecord) (a : Name) (config : GenerateNsecConfig) (links : List Link)
    → OwnersNeverDescend L → IsChain L a config links → NsecFacts L a config links

-- ---- Records as they are received: a cache lowers their TTLs, and servers and signers write names
-- in either case. What the records prove does not depend on that.

-- NSEC records with the same types, and the same owner and next name except for the case of letters
pub record IsSameLink (k l : Link) : Type 0 where
  pub owner : same_name k.owner l.owner ≡ true
  pub next : same_name k.next l.next ≡ true
  pub bits : k.bits ≡ l.bits

-- NSEC3 records with the same data, and the same owner except for the case of letters
pub record IsHashedAlike (k l : HashedLink) : Type 0 where
  pub owner : same_name k.owner l.owner ≡ true
  pub next : k.next ≡ l.next
  pub parameters : k.parameters ≡ l.parameters
  pub flags : k.flags ≡ l.flags
  pub bits : k.bits ≡ l.bits

-- lists of the same length whose records at each place are related by R
abbrev pub ArePaired : {X : Type 0} → (X → X → Type 0) → List X → List X → Type 0
ArePaired R [] [] = Unit {0}
ArePaired R [] (l ∷ ls) = ⊥
ArePaired R (k ∷ ks) [] = ⊥
ArePaired R (k ∷ ks) (l ∷ ls) = R k l × ArePaired R ks ls

-- a record of the list is related to k by R
pub record IsPairedIn {X : Type 0} (R : X → X → Type 0) (links : List X) (k : X) : Type 0 where
  pub link : X
  pub there : Contains links link
  pub alike : R k link

-- ---- What a zone with an NSEC chain says of a name and a type, and what a list of records of the
-- chain proves of that (RFC 4035, section 5.4). The chain keeps the names below a DNAME.

-- the first of x and its ancestors that exists; `laws::closest_enclosers` says that it is the
-- closest encloser
abbrev pub closest_encloser : List Name → Name → Name → Name
closest_encloser names a [] = []
closest_encloser names a (l ∷ x) =
    if exists_over names a (l ∷ x) then l ∷ x else closest_encloser names a x

-- the verdict on a name that owns records, by the types that its record lists; at a zone cut the
-- zone answers only for DS and the listed types
abbrev pub types_verdict : Bool → (ℕ → Bool) → ℕ → Verdict
types_verdict at_cut lists t =
    if lists t then Has else
    (if at_cut && not (t == ds) then BelowDelegation else NoType)

-- the first that holds: x is not at or below the apex, is strictly below a zone cut, is an owner of
-- the chain, is an empty non-terminal, or is none of these
abbrev pub zone_verdict : List ZoneRecord → Name → Bool → Name → ℕ → Verdict
zone_verdict L a assume x t =
    if not (is_at_or_below x a) then OutsideZone else
    (if is_occluded false L a x then BelowDelegation else
    (if list_any (λ n. same_name n x) (unoccluded_owners false L a)
    then types_verdict (is_zone_cut L a x) (nsec_lists L a assume x) t
    else if is_empty_nonterminal (unoccluded_owners false L a) a x then EmptyName
    else NoName (length (closest_encloser (unoccluded_owners false L a) a x))))

-- a record of the list matches or covers x
abbrev pub has_match_or_cover : List Link → Name → Bool
has_match_or_cover listed x = list_any (λ k. matches_or_covers before k.owner k.next x) listed

-- what a list of records of the chain proves: the verdict of the zone if x is not at or below the
-- apex or if a record matches or covers it
abbrev pub proved_verdict : List ZoneRecord → Name → Bool → List Link → Name → ℕ → Verdict
proved_verdict L a assume listed x t =
    if not (is_at_or_below x a) || has_match_or_cover listed x
    then zone_verdict L a assume x t else NotProven

-- the verdict is what the records prove about any zone whose chain they are from, except for TTLs,
-- classes and the case of letters, in any order, with repeats
abbrev pub IsProved : List Link → Name → Name → ℕ → Verdict → Type 0
IsProved listed a x t verdict =
    (L : List ZoneRecord) (config : GenerateNsecConfig) (links : List Link)
    → config.occlude_below_dname ≡ false → OwnersNeverDescend L → IsChain L a config links
    → All (IsPairedIn IsSameLink links) listed
    → verdict ≡ proved_verdict L a config.assume_dnskeys_will_be_added listed x t

-- the owner and the next name are at or below the apex; other records are ignored
abbrev pub is_inside : Name → Link → Bool
is_inside a k = is_at_or_below k.owner a && is_at_or_below k.next a

-- a record that is not ignored matches or covers x
abbrev pub HasProof : List Link → Name → Name → Type 0
HasProof listed a x =
    list_any (λ k. is_inside a k && matches_or_covers before k.owner k.next x) listed ≡ true

-- a closest encloser has at most n labels
abbrev pub IsWithin : ℕ → Verdict → Type 0
IsWithin n (OptOut count) = count ≤ n
IsWithin n (NoName count) = count ≤ n
IsWithin n _ = Unit {0}
