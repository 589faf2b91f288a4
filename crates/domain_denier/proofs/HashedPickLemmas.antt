-- What is picked of an NSEC3 chain answers as the whole chain does, and less without one of its records.
use Rattle.std.proofs.Common.{◌≡◌, ℕ, Bool, true, false, List, [], ◌∷◌, ◌++◌, Some, None, Option, slice_get, length, refl, sym, ap, ◌∙◌, subst, inl, inr, ◌<◌}
use Rattle.std.{proofs.{Common.{arith, not, cond, ◌&&◌, nat_eq, ◌⊎◌}, lemmas.List.Elements.All-from_recursion}, specs.Prelude.{All, Err, Ok, option_to_list}}
use Rattle.std.proofs.Common.{is_some}
use Rattle.std.proofs.lemmas.{Bool.{ne_eqb, or_left, or_right, and_from, eqb-false, false_from_ne_true, false≢true}, Grind.common_steps}
use Rattle.std.{proofs.lemmas.Option.{slice_get_cases, slice_get_within, get_or_from_slice_get, same_Some}, specs.List.{Contains, find, list_any}}
use Rattle.domain_octets.{proofs.StdLemmas.none_some, specs.Octets.Octets}
use Rattle.domain_names.specs.Name.{is_at_or_below, is_strictly_below, lowered, same_name, wire_of, last_labels, Label, Name}
use Rattle.domain_base.specs.Types.{dname}
use Rattle.domain_bitmap.specs.Blocks.{contains_type}
use Rattle.domain_zone.proofs.{PairLemmas.{in_front, stands_in, any_none, in_at, In, all_from_in}, NameLemmas.{below_itself, below_parent, below_trans}}
use Rattle.domain_zone.{proofs.{NameLemmas.{same_itself, below_length, same_length}, WalkLemmas.in_any}, specs.Zone.ZoneRecord}
use Rattle.domain_nsec3.proofs.ChainLemmas.{hash_same}
use Rattle.domain_nsec3.specs.Chain.{ChainRecords, HashedLink, ChainConfig, Hash, hash_name}
use Rattle.domain_checker.{proofs.HashedVerdictLemmas.{IsMissed, IsPassed, heard, none_first, none_left, passed_on}, specs.HashedReading.{Encloser, IsEncloser}}
use Rattle.domain_checker.proofs.MeantLemmas.{same_count}
use Rattle.domain_checker.specs.HashedReading.{IsNextHash, IsUnmatched, encloser_is_cut, next_cover}
use Rattle.domain_checker.specs.HashedVerdict.{HashedRecords, AreUnmatchedBelow, chain_records}
use Rattle.domain_checker.specs.HashedVerdict.{first_cover, first_match, is_hash_cover, is_hash_match, is_matched, is_ok_with, next_closer, with_links}
use Rattle.domain_answer.{proofs.{EncloserLemmas.{parent_below, last_above}, HashedAnswerLemmas.last_low}, specs.ZoneAnswer.wildcard_below}
use Rattle.domain_answer.specs.HashedReading.{wildcard_told, IsHashedRead, IsReadOn, IsWildcardRead, encloser_answer, next_answer, own_answer}
use Rattle.domain_answer.specs.declared.answer.Answer.{Answer, TheVariants.{Referral, Redirected, MayBeUnsigned, NoCloserName, NotProven}}
use Rattle.domain_denier.specs.HashedPicked.{IsHashedWhole, IsPicked, all_records, hashed_picked, other_place, picked_without, without}
use Rattle.domain_denier.specs.HashedPicked.{ArePickedIfMissing, IsPickRefusal, is_of_missing_name, with_wildcard}
use Rattle.domain_denier.specs.HashedPicked.{TellsOfName, IsOfHash, tells_hash, wildcard_told_by, IsFoundAt, IsOfZone, IsReached, IsCoverAt, IsFirstAnswer}
use Rattle.domain_denier.specs.{HashedPicked.{IsPlaced, IsSoleOf, encloser_at, next_role, rests_below}, Picked.{link_at, at_place}}
use Rattle.domain_denier.specs.declared.{encloser.PlacedEncloser.PlacedEncloser, nsec3.Nsec3Denial.Nsec3Denial}

-- the records of a zone's chain are read as that chain tells
pub read_is : (L : List ZoneRecord) (config : ChainConfig) (hash : Hash) (chain : ChainRecords) → IsHashedWhole L config hash chain
    → chain_records chain.param.owner config chain.links ≡ all_records hash chain
read_is L config hash chain whole = grind (arith, common_steps)

-- ---- finding

module _ {X : Type 0} (f : X → Bool) where
  none_found : (xs : List X) → ((x : X) → In x xs → f x ≡ true → ⊥) → find f xs ≡ None
  none_found [] g = refl
  none_found (x ∷ xs) g = grind (arith, common_steps, (none_found xs (λ y i. g y (inr i))), (g x (inl refl)))

  sole_found : (xs : List X) (x : X) → In x xs → f x ≡ true → ((y : X) → In y xs → f y ≡ true → y ≡ x) → find f xs ≡ Some x
  sole_found [] x i h g = absurd i
  sole_found (y ∷ xs) x i h g = grind (arith, common_steps, (sole_found xs x), (g y (inl refl)))

-- ---- some of the links

-- each of the listed ones stands among all, at a place that is not this one
abbrev pub AreOthers : List HashedLink → ℕ → List HashedLink → Type 0
AreOthers links gone listed = (k : HashedLink) → In k listed → (j : ℕ) × (slice_get links j ≡ Some k) × (j ≡ gone → ⊥)

-- each stands among all
abbrev pub AreAmong : List HashedLink → List HashedLink → Type 0
AreAmong links listed = (k : HashedLink) → In k listed → (j : ℕ) × (slice_get links j ≡ Some k)

-- all do
pub all_among : (links : List HashedLink) → AreAmong links links
all_among links = λ k i. let s = stands_in links k i in (s.place, s.there)

pub contained : {X : Type 0} (links : List X) (place : ℕ) (k : X) → slice_get links place ≡ Some k → Contains links k
contained links place k e = (place, slice_get_within links place k e, get_or_from_slice_get links place k k e)

pub record_there : {X : Type 0} (links : List X) (place : ℕ) → place < length links → (k : X) × (slice_get links place ≡ Some k)
record_there links place h = elim (slice_get_cases links place).1 [ inl some ↦ (some.0, some.2) | inr none ↦ absurd (omega (arith, h, none.0)) ]

pub among_contained : (links listed : List HashedLink) → AreAmong links listed → All (Contains links) listed
among_contained links listed among =
    All-from_recursion (Contains links) listed (all_from_in (Contains links) listed (λ k i. let m = among k i in contained links m.0 k m.1))

pub others_among : (links : List HashedLink) (gone : ℕ) (listed : List HashedLink) → AreOthers links gone listed → AreAmong links listed
others_among links gone listed others = λ k i. let o = others k i in (o.0, o.1)

module _ (R : HashedRecords) (v : Octets) (place : ℕ) (is_match : Bool) (of : IsOfHash R v place is_match) where
  abbrev match_of : HashedLink → Bool
  match_of k = is_hash_match R.apex R.parameters v k

  abbrev cover_of : HashedLink → Bool
  cover_of k = is_hash_cover R.apex R.parameters v k

  by_match : (k : HashedLink) → is_hash_match R.apex R.parameters v k ≡ true → tells_hash R.apex R.parameters v k ≡ true
  by_match k e = or_left (match_of k) (cover_of k) e

  by_cover : (k : HashedLink) → is_hash_cover R.apex R.parameters v k ≡ true → tells_hash R.apex R.parameters v k ≡ true
  by_cover k e = or_right (match_of k) (cover_of k) e

  -- none of them but that at the place tells
  module _ (listed : List HashedLink) (others : AreOthers R.links place listed) where
    pub no_match : first_match (with_links R listed) v ≡ None
    no_match = none_found (is_hash_match R.apex R.parameters v) listed (λ k i e. let o = others k i in o.2 (of.only o.0 k o.1 (by_match k e)))

    pub no_cover : first_cover (with_links R listed) v ≡ None
    no_cover = none_found (is_hash_cover R.apex R.parameters v) listed (λ k i e. let o = others k i in o.2 (of.only o.0 k o.1 (by_cover k e)))

  module _ (listed : List HashedLink) (among : AreAmong R.links listed) where
    is_link : (k : HashedLink) → In k listed → tells_hash R.apex R.parameters v k ≡ true → k ≡ of.link
    is_link k i e = grind (arith, common_steps)

    -- a record that covers is no match
    pub unmatched : is_match ≡ false → first_match (with_links R listed) v ≡ None
    unmatched other = grind (arith, common_steps, none_found, is_link, by_match)

    pub matched : In of.link listed → is_match ≡ true → first_match (with_links R listed) v ≡ Some of.link
    matched i sure = grind (arith, common_steps, sole_found, is_link, by_match)

    pub covered : In of.link listed → is_match ≡ false → first_cover (with_links R listed) v ≡ Some of.link
    covered i other = grind (arith, common_steps, sole_found, is_link, by_cover)

-- what they say of a wildcard with that hash
pub told_in : (R : HashedRecords) (v : Octets) (place : ℕ) (m : Bool) (of : IsOfHash R v place m) (listed : List HashedLink) → AreAmong R.links listed
    → In of.link listed → (n t : ℕ)
    → wildcard_told_by n t of.link m ≡ wildcard_told n t (first_match (with_links R listed) v) (first_cover (with_links R listed) v)
told_in R v place true of listed among has n t = grind (arith, common_steps, (matched R v place true of listed among has refl))
told_in R v place false of listed among has n t =
    grind (arith, common_steps, (unmatched R v place false of listed among refl), (covered R v place false of listed among has refl))

-- ---- the links at places

in_back : {X : Type 0} (xs ys : List X) (x : X) → In x ys → In x (xs ++ ys)
in_back [] ys x i = i
in_back (y ∷ xs) ys x i = inr (in_back xs ys x i)

-- the link at a place is listed there
pub in_place : (links : List HashedLink) (o : Option ℕ) (place : ℕ) (k : HashedLink) → o ≡ Some place → slice_get links place ≡ Some k → In k (at_place links o)
in_place links o place k e g = subst (λ ls. In k ls) (sym (ap (at_place links) e ∙ ap option_to_list g)) (inl refl)

-- ---- the links that were picked

module _ (links : List HashedLink) (d : Nsec3Denial) where
  from_picked : (k : HashedLink) → In k (hashed_picked links d) → (place : ℕ) × IsPicked d place × (slice_get links place ≡ Some k)
  from_picked k i = grind (arith, common_steps)

  pub picked_among : AreAmong links (hashed_picked links d)
  picked_among = λ k i. let f = from_picked k i in (f.0, f.2)

  pub in_picked : (place : ℕ) (k : HashedLink) → slice_get links place ≡ Some k → IsPicked d place → In k (hashed_picked links d)
  in_picked place k there is = grind (arith, common_steps, in_front, in_back, in_place)

-- but for the one at a place
from_other : (gone : ℕ) (o : Option ℕ) (place : ℕ) → other_place gone o ≡ Some place → (o ≡ Some place) × (place ≡ gone → ⊥)
from_other gone o place e = grind (arith, common_steps)

kept_place : (gone : ℕ) (o : Option ℕ) (place : ℕ) → o ≡ Some place → (place ≡ gone → ⊥) → other_place gone o ≡ Some place
kept_place gone o place e other = grind (arith, common_steps, ne_eqb)

module _ (links : List HashedLink) (d : Nsec3Denial) (gone : ℕ) where
  never_gone : (place : ℕ) → IsPicked (without gone d) place → place ≡ gone → ⊥
  never_gone place is = grind (arith, common_steps, from_other)

  pub without_others : AreOthers links gone (picked_without links gone d)
  without_others = λ k i. let f = from_picked links (without gone d) k i in (f.0, f.2, never_gone f.0 f.1)

  pub in_without : (place : ℕ) (k : HashedLink) → slice_get links place ≡ Some k → IsPicked d place → (place ≡ gone → ⊥) → In k (picked_without links gone d)
  in_without place k there is other = grind (arith, common_steps, kept_place, in_picked)

-- ---- the names from x up to the apex, by the places of the records that match or cover them

-- where x is the apex there is no other
apex_alone : (a x y : Name) → same_name x a ≡ true → is_at_or_below x y ≡ true → is_at_or_below y a ≡ true → same_name y a ≡ true
apex_alone a x y s above within =
    let short = below_length x y above in let count = same_count x a s in same_length y a within (omega (arith, short, count))

module _ (hash : Hash) (chain : ChainRecords) (x : Name) where
  abbrev R : HashedRecords
  R = all_records hash chain

  pub reached_here : is_at_or_below x chain.param.owner ≡ true → IsReached hash chain x x None
  reached_here low = grind (arith, common_steps, below_itself, none_first, same_itself)

  module _ (left : Name) (cover : Option ℕ) (reached : IsReached hash chain x left cover) where
    pub refused_at : (n : ℕ) (wire : Octets) → wire ≡ wire_of (lowered left) → hash wire ≡ Err n → IsPickRefusal hash chain x n
    refused_at n wire e refused =
        let here : hash_name hash left ≡ Err n = ap hash (sym e) ∙ refused in
        record {
          first = λ zone. inl (record { name = left; above = reached.above; within = reached.within; refused = here; first = reached.first zone });
          above = record { name = left; above = reached.above; within = reached.within; refused = inl here };
          apex = λ s. sym (hash_same hash left chain.param.owner (apex_alone chain.param.owner x left s reached.above reached.within)) ∙ here;
        }

    module _ (place : ℕ) (found : IsFoundAt hash chain (wire_of (lowered left)) place false) where
      -- of the chain of a zone no record matches it
      abbrev missed : (zone : IsOfZone hash chain) → IsMissed (all_records hash chain) x left (first_cover (all_records hash chain) (found.sole zone).value)
      missed zone =
          let sole = found.sole zone in
          record {
            above = reached.above;
            within = reached.within;
            first = reached.first zone;
            value = sole.value;
            known = sole.known;
            none = unmatched R sole.value place false sole.of chain.links (all_among chain.links) refl;
            covered = refl;
          }

      pub none_placed : same_name left chain.param.owner ≡ true → IsOfZone hash chain → IsUnmatched (all_records hash chain) x
      none_placed s zone = none_left R x left (first_cover R (found.sole zone).value) (missed zone) s

      module _ (label : Label) (next : Name) (parts : left ≡ label ∷ next) (other : same_name left chain.param.owner ≡ false) where
        passed : (zone : IsOfZone hash chain) → IsPassed (all_records hash chain) x next (found.sole zone).value
        passed zone = passed_on R x left (first_cover R (found.sole zone).value) (missed zone) label next parts other

        pub reached_above : IsReached hash chain x next (Some place)
        reached_above =
            let a = chain.param.owner in
            let up : is_at_or_below left next ≡ true = ap (λ n. is_at_or_below n next) parts ∙ below_parent label next in
            let strictly : is_strictly_below (label ∷ next) chain.param.owner ≡ true = ap (λ n. is_strictly_below n a) (sym parts)
            ∙ and_from (is_at_or_below left a) (not (same_name left a)) reached.within (ap not other) in
            record {
              above = below_trans x left next reached.above up;
              within = parent_below label next a strictly;
              there = λ q e. subst (λ n. n < length chain.links) (same_Some place q e) found.inside;
              first = λ zone. (passed zone).first;
              closes = λ zone. let p = passed zone in
                  (p.closes.0, record { value = (found.sole zone).value; known = p.closes.1; of = (found.sole zone).of });
            }

-- ---- what is picked answers as all links do, and less without one

-- what no link of all matches none of some does
unmatched_among : (R : HashedRecords) (listed : List HashedLink) → AreAmong R.links listed → (y : Name) (v : Octets)
    → hash_name R.hash y ≡ Ok v → is_matched R y ≡ false → is_matched (with_links R listed) y ≡ false
unmatched_among R listed among y v known none =
    ap (is_ok_with (λ v. list_any (is_hash_match R.apex R.parameters v) listed)) known
    ∙ any_none (is_hash_match R.apex R.parameters v) listed (λ k i.
    let m = among k i in
    false_from_ne_true (is_hash_match R.apex R.parameters v k) (λ e.
    false≢true (sym none ∙ rw known (in_any (is_hash_match R.apex R.parameters v) R.links k (in_at R.links m.0 k m.1) e))))

-- the answer by the tests of the record of the encloser, of which it rests on the cover by the last alone
closer_by : (n c h : Bool) (own cut dname u v : Answer) → ((not n && not c && not h) ≡ true → u ≡ v)
    → cond n own (cond c cut (cond h dname u)) ≡ cond n own (cond c cut (cond h dname v))
closer_by n c h own cut dname u v f = grind (arith, common_steps)

rests_by : (n c h : Bool) (own cut dname u : Answer) → (not n && not c && not h) ≡ true → cond n own (cond c cut (cond h dname u)) ≡ u
rests_by n c h own cut dname u e = grind (arith, common_steps)

-- where it rests on the cover, it is one of two
rested : (a : Name) (e : Encloser) (n t : ℕ) → rests_below a e n ≡ true → (k : HashedLink) → e.cover ≡ Some k
    → (encloser_answer a e n t ≡ NoCloserName e.count) ⊎ (encloser_answer a e n t ≡ MayBeUnsigned e.count)
rested a e n t rests k has = grind (arith, common_steps)

-- and else it is not about a name that does not exist
abbrev IsAtRest : Name → Encloser → ℕ → Type 0
IsAtRest a e n = (rests_below a e n ≡ false) ⊎ (e.cover ≡ None)

never_missing : (a : Name) (e : Encloser) (n t : ℕ) → IsAtRest a e n → is_of_missing_name (encloser_answer a e n t) ≡ false
never_missing a e n t (inl rests) = grind (arith, common_steps)
never_missing a e n t (inr none) = grind (arith, common_steps)

never_closer : (a : Name) (e : Encloser) (n t : ℕ) → IsAtRest a e n → (m : ℕ) → encloser_answer a e n t ≡ NoCloserName m → ⊥
never_closer a e n t (inl rests) m says = grind (arith, common_steps)
never_closer a e n t (inr none) m says = grind (arith, common_steps)

none_by : (r : Bool) (o : Option ℕ) → cond r o None ≡ None → (r ≡ false) ⊎ (o ≡ None)
none_by r o e = grind (arith, common_steps)

at_rest : (a : Name) (links : List HashedLink) (f : PlacedEncloser) (k : HashedLink) (n : ℕ)
    → next_role a (encloser_at links f k) n f.cover ≡ None → IsAtRest a (encloser_at links f k) n
at_rest a links f k n e = elim (none_by (rests_below a (encloser_at links f k) n) f.cover e) [ inl r ↦ inl r | inr o ↦ inr (ap (link_at links) o) ]

-- the record of the wildcard tells of such a name
told_missing : (n t : ℕ) (k : HashedLink) (m : Bool) → is_of_missing_name (wildcard_told_by n t k m) ≡ true
told_missing n t k true = grind (arith, common_steps)
told_missing n t k false = grind (arith, common_steps)

rests_other : (n c h : Bool) → (not n && not c && not h) ≡ true → n ≡ false
rests_other n c h e = grind (arith, common_steps)

role_by : (r : Bool) (o : Option ℕ) (q : ℕ) → cond r o None ≡ Some q → (r ≡ true) × (o ≡ Some q)
role_by r o q e = grind (arith, common_steps)

-- a first answer after which the wildcard is not asked for
plain_on : (R : HashedRecords) (x : Name) (t : ℕ) (first : Answer) → ((n : ℕ) → first ≡ NoCloserName n → ⊥) → IsReadOn R x t first first
plain_on R x t first f = grind (arith, common_steps)

-- ---- where an encloser is found

-- x is placed in the chain of a zone: the record of its encloser, and that of the next closer name
pub record IsEncloserAt (R : HashedRecords) (x : Name) (f : PlacedEncloser) : Type 0 where
  pub name : Name
  pub counts : f.count ≡ length name
  pub above : is_at_or_below x name ≡ true
  pub within : is_at_or_below name R.apex ≡ true
  pub first : AreUnmatchedBelow R x name
  pub sole : IsSoleOf R name f.place true
  pub covers : IsCoverAt R x name f.cover

pub placed_at : (hash : Hash) (chain : ChainRecords) (x : Name) (f : PlacedEncloser) → IsPlaced hash chain x f → IsOfZone hash chain
    → IsEncloserAt (all_records hash chain) x f
placed_at hash chain x f placed zone = grind (arith, common_steps)

-- nothing is said of the wildcard
abbrev pub IsUntold : Answer → Type 0
IsUntold v = (n : ℕ) × ((v ≡ NoCloserName n) ⊎ (v ≡ MayBeUnsigned n))

-- what is picked tells of the encloser, of the next closer name and of the wildcard; it answers as all links do, and less without one
pub record IsPickedRead (R : HashedRecords) (x : Name) (t : ℕ) (d : Nsec3Denial) : Type 0 where
  pub f : PlacedEncloser
  pub at : IsEncloserAt R x f
  pub encloser : d.of_encloser ≡ Some f.place
  pub covered : (q : ℕ) → d.of_next_closer ≡ Some q → IsSoleOf R (next_closer x at.name) q false
  pub told : (q : ℕ) → d.of_wildcard ≡ Some q → (m : Bool) × IsSoleOf R (wildcard_below (last_labels (length at.name) x)) q m
  pub all : IsHashedRead R x t d.answer
  pub picked : IsHashedRead (with_links R (hashed_picked R.links d)) x t d.answer
  pub next_closer : (q : ℕ) → d.of_next_closer ≡ Some q → ¬ (d.of_encloser ≡ Some q) → IsHashedRead (with_links R (picked_without R.links q d)) x t NotProven
  pub wildcard : (q : ℕ) → d.of_wildcard ≡ Some q → ¬ (TellsOfName d q)
      → (less : Answer) × IsUntold less × IsHashedRead (with_links R (picked_without R.links q d)) x t less

module _ (R : HashedRecords) (x : Name) (f : PlacedEncloser) (t : ℕ) (at : IsEncloserAt R x f) where
  abbrev k : HashedLink
  k = at.sole.of.link

  -- the hash of the next closer name, and what some of the links have of it
  abbrev next : (cover : Option ℕ) → IsCoverAt R x at.name cover → Option Octets
  next None c = None
  next (Some q) c = Some c.1.value

  closes : (cover : Option ℕ) (c : IsCoverAt R x at.name cover) → IsNextHash R.hash x at.name (next cover c)
  closes None c = c
  closes (Some q) c = (c.0, c.1.known)

  abbrev whole : Encloser
  whole = encloser_at R.links f at.sole.of.link

  abbrev seen : List HashedLink → Encloser
  seen listed = record { count = f.count; link = at.sole.of.link; cover = next_cover (with_links R listed) (next f.cover at.covers) }

  abbrev said : Answer
  said = encloser_answer R.apex (encloser_at R.links f at.sole.of.link) (length x) t

  abbrev rests : Bool
  rests = rests_below R.apex (encloser_at R.links f at.sole.of.link) (length x)

  -- the link at a place is listed, where one is given
  abbrev Keeps : Option ℕ → List HashedLink → Type 0
  Keeps o listed = (q : ℕ) → o ≡ Some q → (m : HashedLink) → slice_get R.links q ≡ Some m → In m listed

  -- some of the links, with the record of the encloser, tell it too
  module _ (listed : List HashedLink) (among : AreAmong R.links listed) (has : In at.sole.of.link listed) where
    encloser_in : IsEncloser (with_links R listed) x (seen listed)
    encloser_in =
        let found = matched R at.sole.value f.place true at.sole.of listed among has refl in
        record {
          name = at.name;
          counts = at.counts;
          first = record {
            above = at.above;
            within = at.within;
            found = (heard R.hash (is_hash_match R.apex R.parameters) listed at.name at.sole.value at.sole.known k found).2;
            first = λ y up down. let r = at.first y up down in (r.0, r.1, unmatched_among R listed among y r.0 r.1 r.2);
          };
          value = at.sole.value;
          known = at.sole.known;
          found = found;
          next = next f.cover at.covers;
          closes = closes f.cover at.covers;
          covers = refl;
        }

    read_of : (v answer : Answer) → encloser_answer R.apex (seen listed) (length x) t ≡ v → IsReadOn (with_links R listed) x t v answer
        → IsHashedRead (with_links R listed) x t answer
    read_of v answer e on = record {
      found = Some (seen listed);
      is = encloser_in;
      ends = subst (λ g. IsReadOn (with_links R listed) x t g answer) (sym e) on;
    }

    cover_in : (cover : Option ℕ) (c : IsCoverAt R x at.name cover) → Keeps cover listed
        → next_cover (with_links R listed) (next cover c) ≡ link_at R.links cover
    cover_in None c keeps = refl
    cover_in (Some q) c keeps = covered R c.1.value q false c.1.of listed among (keeps q refl c.1.of.link c.1.of.there) refl ∙ sym c.1.of.there

    -- the cover is found where the answer rests on it
    first_is : (rests ≡ true → Keeps f.cover listed) → encloser_answer R.apex (seen listed) (length x) t ≡ said
    first_is keeps =
        closer_by (nat_eq f.count (length x)) (encloser_is_cut R.apex whole) (contains_type k.bits dname) (own_answer R.apex whole t)
        (Referral f.count) (Redirected f.count) (next_answer f.count (next_cover (with_links R listed) (next f.cover at.covers)))
        (next_answer f.count (link_at R.links f.cover)) (λ r. ap (next_answer f.count) (cover_in f.cover at.covers (keeps r)))

  -- without the cover nothing is found
  cover_gone : (cover : Option ℕ) (c : IsCoverAt R x at.name cover) (q : ℕ) → cover ≡ Some q → (listed : List HashedLink) → AreOthers R.links q listed
      → next_cover (with_links R listed) (next cover c) ≡ None
  cover_gone None c q e listed others = refl
  cover_gone (Some p) c q e listed others = no_cover R c.1.value p false c.1.of listed (subst (λ s. AreOthers R.links s listed) (sym (same_Some p q e)) others)

  covers_there : (cover : Option ℕ) → IsCoverAt R x at.name cover → (q : ℕ) → cover ≡ Some q → (m : HashedLink) × (link_at R.links cover ≡ Some m)
  covers_there None c q e = absurd (none_some q e)
  covers_there (Some p) c q e = (c.1.of.link, c.1.of.there)

  sole_cover : (cover : Option ℕ) → IsCoverAt R x at.name cover → (q : ℕ) → cover ≡ Some q → IsSoleOf R (next_closer x at.name) q false
  sole_cover None c q e = absurd (none_some q e)
  sole_cover (Some p) c q e = subst (λ s. IsSoleOf R (next_closer x at.name) s false) (same_Some p q e) c.1

  -- ---- what is picked

  module _ (d : Nsec3Denial) (encloser : d.of_encloser ≡ Some f.place)
      (role : d.of_next_closer ≡ next_role R.apex (encloser_at R.links f at.sole.of.link) (length x) f.cover) where
    role_is : (q : ℕ) → d.of_next_closer ≡ Some q → (rests ≡ true) × (f.cover ≡ Some q)
    role_is q e = role_by rests f.cover q (sym role ∙ e)

    -- without the cover nothing is said
    read_gap : (q : ℕ) → d.of_next_closer ≡ Some q → ¬ (d.of_encloser ≡ Some q) → IsHashedRead (with_links R (picked_without R.links q d)) x t NotProven
    read_gap q e apart =
        let listed = picked_without R.links q d in
        let others = without_others R.links d q in
        let gone = cover_gone f.cover at.covers q (role_is q e).1 listed others in
        read_of listed (others_among R.links q listed others)
        (in_without R.links d q f.place k at.sole.of.there (inl (inl encloser)) (λ same. apart (encloser ∙ ap Some same))) NotProven NotProven
        (rests_by (nat_eq f.count (length x)) (encloser_is_cut R.apex whole) (contains_type k.bits dname) (own_answer R.apex whole t)
        (Referral f.count) (Redirected f.count) (next_answer f.count (next_cover (with_links R listed) (next f.cover at.covers))) (role_is q e).0
        ∙ ap (next_answer f.count) gone) refl

    -- what is read on, by what some of the links have of the wildcard
    module _ (on : (listed : List HashedLink) → AreAmong R.links listed → Keeps d.of_wildcard listed → IsReadOn (with_links R listed) x t said d.answer)
        (told : (q : ℕ) → d.of_wildcard ≡ Some q → (m : Bool) × IsSoleOf R (wildcard_below (last_labels (length at.name) x)) q m)
        (less : (q : ℕ) → d.of_wildcard ≡ Some q → (listed : List HashedLink) → AreOthers R.links q listed
        → (v : Answer) × IsUntold v × IsReadOn (with_links R listed) x t said v) where
      read_on : (listed : List HashedLink) → AreAmong R.links listed → In at.sole.of.link listed → Keeps d.of_next_closer listed → (answer : Answer)
          → IsReadOn (with_links R listed) x t said answer → IsHashedRead (with_links R listed) x t answer
      read_on listed among has keeps answer read =
          read_of listed among has said answer
          (first_is listed among has (λ r q e. keeps q (role ∙ (λ i. cond (r i) f.cover None) ∙ e))) read

      pub picked_read : IsPickedRead R x t d
      picked_read = record {
        f = f;
        at = at;
        encloser = encloser;
        covered = λ q e. sole_cover f.cover at.covers q (role_is q e).1;
        told = told;
        all = read_on R.links (all_among R.links) (in_at R.links f.place k at.sole.of.there) (λ q e. in_at R.links q) d.answer
            (on R.links (all_among R.links) (λ q e. in_at R.links q));
        picked = read_on (hashed_picked R.links d) (picked_among R.links d) (in_picked R.links d f.place k at.sole.of.there (inl (inl encloser)))
            (λ q e m g. in_picked R.links d q m g (inl (inr e))) d.answer
            (on (hashed_picked R.links d) (picked_among R.links d) (λ q e m g. in_picked R.links d q m g (inr e)));
        next_closer = read_gap;
        wildcard = λ q e apart.
            let listed = picked_without R.links q d in
            let others = without_others R.links d q in
            let r = less q e listed others in (
              r.0,
              r.1,
              read_on listed (others_among R.links q listed others)
                  (in_without R.links d q f.place k at.sole.of.there (inl (inl encloser)) (λ s. apart (inl (encloser ∙ ap Some s))))
                  (λ i h l u. in_without R.links d q i l u (inl (inr h)) (λ s. apart (inr (h ∙ ap Some s))))
                  r.0 r.2,
            );
      }

    -- the wildcard is not asked for
    pub plain_read : d.of_wildcard ≡ None → d.answer ≡ said → d.of_next_closer ≡ None → IsPickedRead R x t d
    plain_read none is apart =
        let never = never_closer R.apex whole (length x) t (at_rest R.apex R.links f k (length x) (sym role ∙ apart)) in
        picked_read (λ listed among keeps. subst (IsReadOn (with_links R listed) x t said) (sym is) (plain_on (with_links R listed) x t said never))
        (λ q e. absurd (none_some q (sym none ∙ e))) (λ q e. absurd (none_some q (sym none ∙ e)))

    -- or it is, and this is its record
    module _ (place : ℕ) (part : d.of_wildcard ≡ Some place) (m : Bool) (of : IsSoleOf R (wildcard_below (last_labels f.count x)) place m) where
      told_of : (q : ℕ) → d.of_wildcard ≡ Some q → (m : Bool) × IsSoleOf R (wildcard_below (last_labels (length at.name) x)) q m
      told_of q e = (
        m,
        subst (λ i. IsSoleOf R (wildcard_below (last_labels i x)) q m) at.counts
            (subst (λ i. IsSoleOf R (wildcard_below (last_labels f.count x)) i m) (same_Some place q (sym part ∙ e)) of),
      )

      -- with opt-out it changes nothing
      unsigned_read : said ≡ MayBeUnsigned f.count → d.answer ≡ MayBeUnsigned f.count → IsPickedRead R x t d
      unsigned_read out says =
          let same : said ≡ d.answer = out ∙ sym says in
          let never : (n : ℕ) → said ≡ NoCloserName n → ⊥ = λ n e. absurd (let u = out in cc) in
          picked_read (λ listed among keeps. subst (IsReadOn (with_links R listed) x t said) same (plain_on (with_links R listed) x t said never)) told_of
          (λ q e listed others. (said, (f.count, inr out), plain_on (with_links R listed) x t said never))

      -- without opt-out it answers
      module _ (closer : said ≡ NoCloserName f.count) (says : d.answer ≡ wildcard_told_by f.count t of.of.link m) where
        wild_on : (listed : List HashedLink) (answer : Answer) → IsWildcardRead (with_links R listed) x t f.count answer
            → IsReadOn (with_links R listed) x t said answer
        wild_on listed answer read = subst (λ v. IsReadOn (with_links R listed) x t v answer) (sym closer) read

        gone : (listed : List HashedLink) → AreOthers R.links place listed → NoCloserName f.count
            ≡ wildcard_told f.count t (first_match (with_links R listed) of.value) (first_cover (with_links R listed) of.value)
        gone listed others = λ i. wildcard_told f.count t (sym (no_match R of.value place m of.of listed others) i)
            (sym (no_cover R of.value place m of.of listed others) i)

        closer_read : IsPickedRead R x t d
        closer_read =
            picked_read (λ listed among keeps. wild_on listed d.answer (record {
              value = of.value;
              known = of.known;
              says = says ∙ told_in R of.value place m of.of listed among (keeps place part of.of.link of.of.there) f.count t;
            })) told_of
            (λ q e listed others. (
              NoCloserName f.count,
              (f.count, inl refl),
              wild_on listed (NoCloserName f.count) (record {
                value = of.value;
                known = of.known;
                says = gone listed (subst (λ s. AreOthers R.links s listed) (sym (same_Some place q (sym part ∙ e))) others);
              }),
            ))

      -- the answer rests on the cover
      pub wildcard_read : (q : ℕ) → d.of_next_closer ≡ Some q → d.answer ≡ with_wildcard said (wildcard_told_by f.count t of.of.link m) → IsPickedRead R x t d
      wildcard_read q e says =
          let r = role_is q e in
          let c = covers_there f.cover at.covers q r.1 in
          elim (rested R.apex whole (length x) t r.0 c.0 c.1) [
            | inl closer ↦ closer_read closer (says ∙ ap (λ v. with_wildcard v (wildcard_told_by f.count t of.of.link m)) closer)
            | inr out ↦ unsigned_read out (says ∙ ap (λ v. with_wildcard v (wildcard_told_by f.count t of.of.link m)) out)
          ]

  -- all links tell of the encloser
  abbrev pub whole_in : Encloser
  whole_in = seen R.links

  pub encloser_whole : IsEncloser R x whole_in
  encloser_whole = encloser_in R.links (all_among R.links) (in_at R.links f.place k at.sole.of.there)

-- ---- where none is found

pub none_read : (R : HashedRecords) (x : Name) (t : ℕ) → IsUnmatched R x → IsHashedRead (with_links R []) x t NotProven
none_read R x t none = grind (arith, common_steps, (unmatched_among R))

-- ---- the wildcard lies below an ancestor

module _ (hash : Hash) (chain : ChainRecords) (x : Name) (f : PlacedEncloser) (placed : IsPlaced hash chain x f) (t : ℕ) (told : Answer × Option ℕ)
    (says : (k : HashedLink) → slice_get chain.links f.place ≡ Some k → IsFirstAnswer chain f (length x) t k told) where
  first : (k : HashedLink) × IsFirstAnswer chain f (length x) t k told
  first = let k = record_there chain.links f.place placed.found.inside in (k.0, says k.0 k.1)

  abbrev own : Encloser
  own = encloser_at chain.links f first.0

  -- the cover is picked where the answer rests on it
  cover_is : (q : ℕ) → told.1 ≡ Some q → (rests_below chain.param.owner own (length x) ≡ true) × (f.cover ≡ Some q)
  cover_is q e = role_by (rests_below chain.param.owner own (length x)) f.cover q (sym first.1.1 ∙ e)

  role_rests : (q : ℕ) → told.1 ≡ Some q → (k : HashedLink) → slice_get chain.links f.place ≡ Some k
      → rests_below chain.param.owner (encloser_at chain.links f k) (length x) ≡ true
  role_rests q e k there = (role_by (rests_below chain.param.owner (encloser_at chain.links f k) (length x)) f.cover q (sym (says k there).1 ∙ e)).0

  pub asked_less : (q : ℕ) → told.1 ≡ Some q → f.count < length x
  asked_less q e =
      let short = below_length x placed.name placed.reached.above in
      let other = rests_other (nat_eq f.count (length x)) _ _ (cover_is q e).0 in
      let counts = placed.counts in grind (arith, common_steps, eqb-false)

  pub refused_below : (q : ℕ) → told.1 ≡ Some q → is_at_or_below x chain.param.owner ≡ true → (r : ℕ)
      → hash_name hash (wildcard_below (last_labels f.count x)) ≡ Err r → IsPickRefusal hash chain x r
  refused_below q e low r refused =
      let a = chain.param.owner in
      let less = asked_less q e in
      let counts = placed.counts in
      let many = below_length placed.name a placed.reached.within in
      record {
        first = λ zone.
            let at = placed_at hash chain x f placed zone in
            let k = at.sole.of.link in
            inr (record {
              encloser = whole_in (all_records hash chain) x f t at;
              is = encloser_whole (all_records hash chain) x f t at;
              asks = role_rests q e k at.sole.of.there;
              refused = refused;
            });
        above = record {
          name = last_labels f.count x;
          above = last_above x f.count;
          within = last_low a x f.count low (omega (arith, counts, many)) (omega (arith, less));
          refused = inr refused;
        };
        apex = λ s. absurd (let count = same_count x a s in omega (arith, count, counts, many, less));
      }

  -- ---- for any chain the record of the wildcard is picked exactly for names that do not exist

  pub missing_plain : (d : Nsec3Denial) → d.answer ≡ told.0 → d.of_next_closer ≡ told.1 → d.of_wildcard ≡ None → told.1 ≡ None → ArePickedIfMissing d
  missing_plain d answer closer wildcard none =
      let other : is_of_missing_name d.answer ≡ false = ap is_of_missing_name (answer ∙ first.1.0)
      ∙ never_missing chain.param.owner own (length x) t (at_rest chain.param.owner chain.links f first.0 (length x) (sym first.1.1 ∙ none)) in
      record { next_closer = ap is_some (closer ∙ none) ∙ sym other; wildcard = ap is_some wildcard ∙ sym other }

  pub missing_wildcard : (d : Nsec3Denial) (q : ℕ) → told.1 ≡ Some q → d.of_next_closer ≡ told.1 → (place : ℕ) → d.of_wildcard ≡ Some place
      → (n : ℕ) (k : HashedLink) (m : Bool) → d.answer ≡ with_wildcard told.0 (wildcard_told_by n t k m) → ArePickedIfMissing d
  missing_wildcard d q e closer place wildcard n k m answer =
      let c = cover_is q e in
      let i = record_there chain.links q (placed.reached.there q c.1) in
      let two = rested chain.param.owner own (length x) t c.0 i.0 (ap (link_at chain.links) c.1 ∙ i.1) in
      let absent : is_of_missing_name d.answer ≡ true = ap is_of_missing_name answer ∙ elim two [
        | inl closer ↦ ap (λ v. is_of_missing_name (with_wildcard v (wildcard_told_by n t k m))) (first.1.0 ∙ closer) ∙ told_missing n t k m
        | inr out ↦ ap (λ v. is_of_missing_name (with_wildcard v (wildcard_told_by n t k m))) (first.1.0 ∙ out)
      ] in
      record { next_closer = ap is_some (closer ∙ e) ∙ sym absent; wildcard = ap is_some wildcard ∙ sym absent }

  -- the places are places of the chain
  pub all_there : (part : Option ℕ) → ((q : ℕ) → part ≡ Some q → q < length chain.links) → (place : ℕ)
      → ((Some f.place ≡ Some place) ⊎ (told.1 ≡ Some place)) ⊎ (part ≡ Some place) → place < length chain.links
  all_there part wild place (inl (inl e)) = subst (λ n. n < length chain.links) (same_Some f.place place e) placed.found.inside
  all_there part wild place (inl (inr e)) = placed.reached.there place (cover_is place e).1
  all_there part wild place (inr e) = wild place e
