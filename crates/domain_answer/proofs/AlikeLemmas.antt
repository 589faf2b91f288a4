-- What records answer does not depend on TTLs, classes and the case of letters.
use Rattle.std.{proofs.{Common.{◌≡◌, ◌∙◌, ℕ, Bool, List, [], ◌∷◌, Option, Some, None}, lemmas.Grind.common_steps}, specs.List.find}
use Rattle.std.proofs.Common.{arith, cond, not, ◌&&◌, ◌||◌}
use Rattle.domain_names.specs.Name.{lowered, same_name, Name}
use Rattle.domain_base.specs.Types.{dname, ns, soa}
use Rattle.domain_chain_rdata.specs.Rdata.{is_opt_out}
use Rattle.domain_zone.{proofs.NameLemmas.{before_left, before_right, same_lowered}, specs.Zone.{ZoneRecord, is_zone_cut}}
use Rattle.domain_bitmap.specs.Blocks.{contains_type}
use Rattle.domain_nsec.specs.Chain.{Link}
use Rattle.domain_nsec3.specs.Chain.{HashedLink, ChainConfig, nsec3_lists}
use Rattle.domain_checker.proofs.MeantLemmas.{IsEncloserAlike, OptionsPaired, any_alike, covered_alike, covering, encloser_alike, find_alike, is_cover_alike}
use Rattle.domain_checker.proofs.MeantLemmas.{is_match_alike, matched_alike, matching, nexts, owners, same_count, says_alike, shared_alike}
use Rattle.domain_checker.specs.{HashedReading.Encloser, HashedVerdict.{HashedRecords, chain_records, next_closer, with_links}, Reading.{is_cover, is_match}}
use Rattle.domain_checker.specs.Verdict.{ArePaired, IsSameLink, IsHashedAlike}
use Rattle.domain_answer.specs.HashedReading.{IsExpansionRead, closer_name, closer_answer, proved_expansion, hashed_proved_answer, tells_encloser}
use Rattle.domain_answer.specs.HashedReading.{tells_wildcard}
use Rattle.domain_answer.specs.HashedReading.{IsHashedRead, IsReadOn, found_answer, wildcard_told, hashed_encloser, hashed_exists, hashed_zone_answer}
use Rattle.domain_answer.specs.{declared.answer.Answer.{Answer, TheVariants.{MayBeUnsigned, NoCloserName, NotProven}}, Reading.{proved_answer, absent_answer}}
use Rattle.domain_answer.specs.{Reading.{cover_answer, is_usable, listed_both, answer_of_list, usable, wildcard_both}, ZoneAnswer.wildcard_below}

-- ---- records that count

pub is_usable_alike : (a : Name) (k l : Link) → IsSameLink k l → is_usable a k ≡ is_usable a l
is_usable_alike a k l h =
    let order = before_left k.owner l.owner k.next (owners h) ∙ before_right l.owner k.next l.next (nexts h) in
    λ i. (order i || same_lowered (nexts h i) (lowered a))
    && not ((not (same_lowered (owners h i) (lowered a)) && contains_type (h.bits i) ns) && contains_type (h.bits i) soa)

pub usable_alike : (a : Name) (ks ls : List Link) → ArePaired IsSameLink ks ls → ArePaired IsSameLink (usable a ks) (usable a ls)
usable_alike a [] [] h = tt
usable_alike a [] (l ∷ ls) h = absurd h
usable_alike a (k ∷ ks) [] h = absurd h
usable_alike a (k ∷ ks) (l ∷ ls) h = grind (arith, common_steps, (is_usable_alike a k l h.0), (usable_alike a ks ls h.1))

-- ---- lists

module _ (a : Name) (t : ℕ) where
  wildcard_both_alike : (n : ℕ) (w : Name) (m p c d : Option Link) → OptionsPaired IsSameLink m p → OptionsPaired IsSameLink c d
      → wildcard_both a n w t m c ≡ wildcard_both a n w t p d
  wildcard_both_alike n w (Some k) (Some l) c d m h = grind (arith, common_steps, (owners m))
  wildcard_both_alike n w None None (Some c) (Some d) m h = grind (arith, common_steps, (owners h), (nexts h))
  wildcard_both_alike n w m p c d h i = grind (arith, common_steps)

  module _ (ks ls : List Link) (all : ArePaired IsSameLink ks ls) where
    matches_alike : (y : Name) → OptionsPaired IsSameLink (find (is_match a y) ks) (find (is_match a y) ls)
    matches_alike y = find_alike IsSameLink (is_match a y) (is_match_alike a y) ks ls all

    covers_alike : (y : Name) → OptionsPaired IsSameLink (find (is_cover a y) ks) (find (is_cover a y) ls)
    covers_alike y = find_alike IsSameLink (is_cover a y) (is_cover_alike a y) ks ls all

    absent_alike : (n : ℕ) (x : Name) → absent_answer a ks n x t ≡ absent_answer a ls n x t
    absent_alike n x = grind (arith, common_steps, wildcard_both_alike, matches_alike, covers_alike)

    cover_alike : (k l : Link) (x : Name) → IsSameLink k l → cover_answer a ks k x t ≡ cover_answer a ls l x t
    cover_alike k l x alike = grind (arith, common_steps, (owners alike), (nexts alike), (same_count k.owner l.owner alike.owner), shared_alike, absent_alike)

    both_alike : (x : Name) (m n c d : Option Link) → OptionsPaired IsSameLink m n → OptionsPaired IsSameLink c d
        → listed_both a ks x t m c ≡ listed_both a ls x t n d
    both_alike x (Some k) (Some l) c d m h = grind (arith, common_steps, (owners m), (same_count k.owner l.owner m.owner))
    both_alike x None None (Some c) (Some d) m h = cover_alike c d x h
    both_alike x m n c d h i = grind (arith, common_steps)

    pub reading_alike : (x : Name) → answer_of_list a ks x t ≡ answer_of_list a ls x t
    reading_alike x = grind (arith, common_steps, both_alike, matches_alike, covers_alike)

    pub proved_alike : (L : List ZoneRecord) (assume : Bool) (x : Name) → proved_answer L a assume ks x t ≡ proved_answer L a assume ls x t
    proved_alike L assume x = grind (arith, common_steps, any_alike, says_alike)

-- ---- NSEC3 records

-- ---- what records say that were found

abbrev BothAlike : Option HashedLink → Option HashedLink → Type 0
BothAlike = OptionsPaired IsHashedAlike

wildcard_alike : (n t : ℕ) (m o c d : Option HashedLink) → BothAlike m o → BothAlike c d → wildcard_told n t m c ≡ wildcard_told n t o d
wildcard_alike n t m o c d h h7 = grind (arith, common_steps)

closer_alike : (n : ℕ) (m o c d : Option HashedLink) → BothAlike m o → BothAlike c d → closer_answer n m c ≡ closer_answer n o d
closer_alike n m o c d h h6 = grind (arith, common_steps)

found_answer_alike : (a : Name) (n t : ℕ) (e f : Option Encloser) → OptionsPaired IsEncloserAlike e f → found_answer a e n t ≡ found_answer a f n t
found_answer_alike a n t e f h = grind (arith, common_steps)

-- ---- lists

-- other records, each like the one at its place
module _ (R : HashedRecords) (ls : List HashedLink) (alike : ArePaired IsHashedAlike R.links ls) where
  abbrev S : HashedRecords
  S = with_links R ls

  pub expansion_alike : (x : Name) (n : ℕ) (answer : Answer) → IsExpansionRead R x n answer → IsExpansionRead S x n answer
  expansion_alike x n answer r = grind (arith, common_steps, closer_alike, matching, covering)

  module _ (x : Name) (t : ℕ) where
    read_on : (first answer : Answer) → IsReadOn R x t first answer → IsReadOn S x t first answer
    read_on first answer r = grind (arith, common_steps, wildcard_alike, matching, covering)

    pub read_alike : (answer : Answer) → IsHashedRead R x t answer → IsHashedRead S x t answer
    read_alike answer read = grind (arith, common_steps, encloser_alike, found_answer_alike, read_on)

module _ (L : List ZoneRecord) (a : Name) (config : ChainConfig) (x : Name) (t : ℕ) (ks ls : List HashedLink)
    (alike : ArePaired IsHashedAlike ks ls) where
  abbrev en : Name
  en = hashed_encloser L a config x

  abbrev zone : Answer
  zone = hashed_zone_answer L a config x t

  encloser_told : tells_encloser L a config ks x ≡ tells_encloser L a config ls x
  encloser_told =
      λ i. matched_alike (chain_records a config ks) ls alike en i
      && (((same_name en x || is_zone_cut L a en) || nsec3_lists L a config en dname)
      || covered_alike (chain_records a config ks) ls alike (next_closer x en) i)

  wildcard_said : tells_wildcard L a config ks x ≡ tells_wildcard L a config ls x
  wildcard_said =
      λ i. matched_alike (chain_records a config ks) ls alike (wildcard_below en) i
      || covered_alike (chain_records a config ks) ls alike (wildcard_below en) i

  pub hashed_proved_alike : hashed_proved_answer L a config ks x t ≡ hashed_proved_answer L a config ls x t
  hashed_proved_alike = grind (arith, common_steps, encloser_told, wildcard_said)

  pub proved_expansion_alike : (n : ℕ) → proved_expansion L a config ks x n ≡ proved_expansion L a config ls x n
  proved_expansion_alike n =
      λ i. cond (hashed_exists L a config (closer_name n x)) NotProven
      (cond (not (covered_alike (chain_records a config ks) ls alike (closer_name n x) i)) NotProven
      (cond (is_opt_out config.flags) (MayBeUnsigned n) (NoCloserName n)))
