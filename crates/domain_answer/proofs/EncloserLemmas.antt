-- Names above a name: its last labels, its closest encloser, the wildcard below that, and the names that occlude it; and that each kind of answer
-- is the zone's exactly where what it says is so.
use Rattle.std.proofs.Common.{◌≡◌, ℕ, Bool, true, false, cond, not, ◌&&◌, ◌||◌, arith, ◌≤◌, ◌<◌, ◌-◌, suc, List, [], ◌∷◌, drop, length, refl, sym, ap, ◌∙◌}
use Rattle.std.{proofs.{Common.{inl, inr, Some, None, rules, Option}, lemmas.{Grind.common_steps, List.length-drop}}, specs.{List.list_any, Option.option_or}}
use Rattle.std.proofs.lemmas.Bool.{and_from, and_parts, cases_Bool, false_from_ne_true, false≢true, or_left, and_right, not-false, not-true}
use Rattle.std.specs.Prelude.{◌==◌, nat_lt}
use Rattle.domain_names.specs.Name.{is_at_or_below, is_strictly_below, lowered, same_name, last_labels, before, Label, Name}
use Rattle.domain_base.specs.Types.{cname, ds, dname}
use Rattle.domain_zone.proofs.NameLemmas.{before_right, before_order, below_between, below_from, below_length, below_longer, below_parent, below_root}
use Rattle.domain_zone.proofs.NameLemmas.{below_trans, strictly_longer, strictly_from, lowered_below, one_lowered, same_lowered, below_itself, same_itself}
use Rattle.domain_zone.proofs.{NameLemmas.{exists_same, shared_within}, WalkLemmas.{any_in, below_occluder, occluder_owns, any_owner}, PairLemmas.In}
use Rattle.domain_zone.specs.{Covering.{covers, matches}, Enclosers.{IsClosestEncloser, exists_over, longer, shared}, Zone.{ZoneRecord, has_type}}
use Rattle.domain_zone.specs.Zone.{is_occluded, is_unoccluded, is_zone_cut, occludes, owns, records_of, unoccluded_owners}
use Rattle.domain_nsec.specs.Chain.{nsec_lists}
use Rattle.domain_checker.proofs.{HashedVerdictLemmas.below_drop, MeantLemmas.{choose_by, cut_same, occluded_same, occludes_same, same_count, strictly_trans}}
use Rattle.domain_checker.{proofs.MeantLemmas.top_occluder, specs.Verdict.closest_encloser}
use Rattle.domain_answer.specs.{Reading.{IsAbsent, IsHere, IsRedirected, IsReferred, IsSo, wildcard_of}, ZoneAnswer.{expanded_answer, nxname}}
use Rattle.domain_answer.specs.ZoneAnswer.{owned_answer, asterisk}
use Rattle.domain_answer.specs.ZoneAnswer.{asked_type, highest_occluder, wildcard_below, encloser, inside_answer, is_at_parent, missing_answer, name_exists}
use Rattle.domain_answer.specs.ZoneAnswer.{is_meta_type}
use Rattle.domain_answer.specs.{ZoneAnswer.{occluded_answer, owns_type, unoccluded_answer, zone_answer}, declared.answer.Answer.Answer}
use Rattle.domain_answer.specs.declared.answer.Answer.TheVariants.{NotProven, OutsideZone, AtParent, Referral, Redirected}
use Rattle.domain_answer.specs.declared.answer.Answer.TheVariants.{Has, NoDs, Alias, NxName, NoData, Wildcard}
use Rattle.domain_answer.specs.declared.answer.Answer.TheVariants.{WildcardAlias, WildcardNoData, NameError, MayBeUnsigned, NoCloserName, TooManyIterations}

-- ---- the type that decides

pub asked_bound : (t : ℕ) → t < 65536 → asked_type t < 65536
unfolding asked_type
asked_bound t bound = grind (arith, common_steps)

pub owned_alike : (c d : Bool) (p q : ℕ → Bool) (m n t : ℕ) → c ≡ d → ((c && not (t == ds)) ≡ false → p (asked_type t) ≡ q (asked_type t))
    → p cname ≡ q cname → p nxname ≡ q nxname → m ≡ n → owned_answer c p m t ≡ owned_answer d q n t
owned_alike c d p q m n t cut types alias gone count = grind (arith, common_steps)

pub expanded_alike : (c d : Bool) (p q : ℕ → Bool) (n t : ℕ) → c ≡ d → ((c && not (t == ds)) ≡ false → p (asked_type t) ≡ q (asked_type t))
    → p cname ≡ q cname → expanded_answer c p n t ≡ expanded_answer d q n t
expanded_alike c d p q n t cut types alias = grind (arith, common_steps)

-- the answer of a name that owns NXNAME, and not what is asked for
fifth : (cut parent asked alias gone : Bool) (referral : Answer) → cut ≡ false → asked ≡ false → alias ≡ false → gone ≡ true
    → cond (cut && not parent) referral (cond asked Has (cond cut NoDs (cond alias Alias (cond gone NxName NoData)))) ≡ NxName
fifth cut parent asked alias gone referral a b c d = grind (arith, common_steps)

-- where all is told that is needed, the answer v is proved
pub all_told : (low parent meta told lacks : Bool) (v less : Answer) → (low ≡ true → told ≡ true) → (low ≡ true → lacks ≡ false)
    → cond (not low || (parent || meta)) v (cond (not told) NotProven (cond lacks less v)) ≡ v
all_told low parent meta told lacks v less f g = grind (arith, common_steps)

-- ---- names that are the same, and names below each other

pub strictly_same : (x m n : Name) → same_name m n ≡ true → is_strictly_below x m ≡ is_strictly_below x n
strictly_same x m n s = ap (λ k. lowered_below (lowered x) k && not (same_lowered (lowered x) k)) (one_lowered m n s)

pub child_below : (l : Label) (x : Name) → is_strictly_below (l ∷ x) x ≡ true
child_below l x = strictly_from (l ∷ x) x (below_parent l x) (omega arith)

-- what a name is strictly below, its parent is at or below
pub parent_below : (l : Label) (x c : Name) → is_strictly_below (l ∷ x) c ≡ true → is_at_or_below x c ≡ true
parent_below l x c s = grind (arith, common_steps, (strictly_longer (l ∷ x) c s), below_longer, (below_parent l x))

-- ---- the last labels

pub last_more : (l : Label) (x : Name) (n : ℕ) → n ≤ length x → last_labels n (l ∷ x) ≡ last_labels n x
last_more l x n h = let more : length (l ∷ x) - n ≡ suc (length x - n) = omega arith in ap (λ m. drop m (l ∷ x)) more

-- they are at or above the name, and so many
pub last_above : (x : Name) (n : ℕ) → is_at_or_below x (last_labels n x) ≡ true
last_above x n = below_drop (length x - n) x

pub last_count : (x : Name) (n : ℕ) → n ≤ length x → length (last_labels n x) ≡ n
last_count x n h = omega (arith, length-drop (length x - n) x)

-- ---- the closest encloser is the last labels of the name

pub closest_last : (names : List Name) (a x : Name) → last_labels (length (closest_encloser names a x)) x ≡ closest_encloser names a x
closest_last names a [] = refl
closest_last names a (l ∷ x) = grind (arith, common_steps, last_more, (closest_last names a x))

-- ---- names that share less than all labels

shared_less : (x y : Name) → is_at_or_below y x ≡ false → length (shared x y) < length x
shared_less [] y e = absurd (false≢true (sym e ∙ below_root y))
shared_less (l ∷ x) y e = grind (arith, common_steps, shared_within)

longer_less : (n : ℕ) (e f : Name) → length e < n → length f < n → length (longer e f) < n
longer_less n e f p q = grind (arith, common_steps)

-- a name that is not after the owner is before the next name, which is not after the owner either
after_owner : (oo ox xn : Bool) → ox ≡ false → cond oo (ox && xn) (ox || xn) ≡ true → (oo ≡ false) × (xn ≡ true)
after_owner oo ox xn e between = grind (arith, common_steps)

module _ (o n x : Name) (c : covers before o n x ≡ true) where
  -- what a cover says, by what comes before what
  between : cond (before o n) (before o x && before x n) (before o x || before x n) ≡ true
  between = (and_parts (not (matches before o x)) (cond (before o n) (before o x && before x n) (before o x || before x n)) c).1

  -- the next name is not the one that is covered
  other_next : same_name n x ≡ false
  other_next = grind (arith, common_steps, one_lowered, before_right, below_from)

  -- a next name that is not strictly below it is not at it or below
  next_apart : is_strictly_below n x ≡ false → is_at_or_below n x ≡ false
  next_apart s = grind (arith, common_steps, other_next)

  -- then the owner isn't either
  owner_apart : is_strictly_below n x ≡ false → is_at_or_below o x ≡ false
  owner_apart s = false_from_ne_true (is_at_or_below o x) (λ e.
      let ahead = after_owner (before o n) (before o x) (before x n) (below_from o x e) between in
      false≢true (sym (next_apart s) ∙ below_between o x n e (before_order.one_way x n ahead.1) ahead.0))

  -- so the closest encloser has fewer labels
  pub encloser_less : is_strictly_below n x ≡ false → length (longer (shared x o) (shared x n)) < length x
  encloser_less s = longer_less (length x) (shared x o) (shared x n) (shared_less x o (owner_apart s)) (shared_less x n (next_apart s))

-- ---- what exists over a list of names

-- strictly below a name is below it and another
pub below_strictly : (x y : Name) → is_strictly_below x y ≡ true → is_at_or_below x y ≡ true
below_strictly x y s = (and_parts (is_at_or_below x y) (not (same_name x y)) s).0

pub strictly_other : (x y : Name) → is_at_or_below x y ≡ true → same_name x y ≡ false → is_strictly_below x y ≡ true
strictly_other x y low other = and_from (is_at_or_below x y) (not (same_name x y)) low (ap not other)

module _ (names : List Name) (a : Name) where
  pub exists_low : (e : Name) → exists_over names a e ≡ true → is_at_or_below e a ≡ true
  exists_low e there = (and_parts (is_at_or_below e a) (list_any (λ n. is_at_or_below n e) names) there).0

  -- one of the names is at or below what exists
  pub name_of : (e : Name) → exists_over names a e ≡ true → (n : Name) × In n names × (is_at_or_below n e ≡ true)
  name_of e there = any_in (λ n. is_at_or_below n e) names (and_parts (is_at_or_below e a) (list_any (λ n. is_at_or_below n e) names) there).1

  module _ (x e : Name) (closest : IsClosestEncloser names a x e) where
    -- what does not exist is strictly below its closest encloser
    pub strictly_enclosed : exists_over names a x ≡ false → is_strictly_below x e ≡ true
    strictly_enclosed gone = grind (arith, common_steps, exists_same)

    -- the wildcard below it lies in the zone
    pub wildcard_low : is_at_or_below (wildcard_below e) a ≡ true
    wildcard_low = below_trans (wildcard_below e) e a (below_parent asterisk e) (exists_low e closest.found)

-- ---- names that occlude, and the highest of them above a name

module _ (L : List ZoneRecord) (a : Name) where
  pub cut_occludes : (n : Name) → is_zone_cut L a n ≡ true → occludes true L a n ≡ true
  cut_occludes n c = or_left (is_zone_cut L a n) (is_at_or_below n a && has_type (records_of L n) dname) c

  pub cut_owns : (n : Name) → is_zone_cut L a n ≡ true → owns L n ≡ true
  cut_owns n c = occluder_owns true L a n (cut_occludes n c)

  pub dname_occludes : (n : Name) → is_at_or_below n a ≡ true → has_type (records_of L n) dname ≡ true → occludes true L a n ≡ true
  dname_occludes n low d = grind (arith, common_steps)

  pub free_parts : (n : Name) → is_unoccluded true L a n ≡ true → (is_at_or_below n a ≡ true) × (is_occluded true L a n ≡ false)
  free_parts n free = grind (arith, common_steps)

  -- over names that are not occluded nothing exists strictly below one that occludes
  pub none_below : (names : List Name) → ((n : Name) → In n names → is_occluded true L a n ≡ false)
      → (d y : Name) → occludes true L a d ≡ true → exists_over names a y ≡ true → is_strictly_below y d ≡ true → ⊥
  none_below names free d y over there s =
      let n = name_of names a y there in
      let far = strictly_longer y d s in
      let near = below_length n.0 y n.2 in
      let under = strictly_from n.0 d (below_trans n.0 y d n.2 (below_strictly y d s)) (omega arith) in
      false≢true (sym (free n.0 n.1) ∙ below_occluder true L a d n.0 over under)

  -- above a name that is not occluded none occludes
  pub none_above : (x : Name) → is_occluded true L a x ≡ false → highest_occluder L a x ≡ None
  none_above [] e = refl
  none_above (l ∷ x) e = λ i. option_or (none_above x up i) (cond (here i) (Some x) None)
    where
      up : is_occluded true L a x ≡ false
      up = false_from_ne_true (is_occluded true L a x) (λ f.
          let top = (top_occluder true L a x f).0 in
          false≢true (sym e ∙ below_occluder true L a top.name (l ∷ x) top.over
          (strictly_trans (l ∷ x) x top.name (child_below l x) (below_strictly x top.name top.under))))

      here : occludes true L a x ≡ false
      here = false_from_ne_true (occludes true L a x) (λ f. false≢true (sym e ∙ below_occluder true L a x (l ∷ x) f (child_below l x)))

  -- a name that occludes and is not occluded is the highest above each name strictly below it
  pub highest_is : (x c : Name) → occludes true L a c ≡ true → is_occluded true L a c ≡ false → is_strictly_below x c ≡ true
      → (d : Name) × (highest_occluder L a x ≡ Some d) × (same_name d c ≡ true)
  highest_is [] c h f s = let far = strictly_longer [] c s in absurd (omega arith)
  highest_is (l ∷ x) c h f s =
      elim (cases_Bool (same_name x c)) [
        | inl e ↦ (x, (λ i. option_or (none_above x (occluded_same true L a x c e ∙ f) i) (cond ((occludes_same true L a x c e ∙ h) i) (Some x) None)), e)
        | inr e ↦
            let up = highest_is x c h f (strictly_other x c (parent_below l x c s) e) in
            (up.0, ap (λ o. option_or o (cond (occludes true L a x) (Some x) None)) up.1, up.2)
      ]

-- ---- each kind of answer is the zone's exactly where what it says is so

module _ (L : List ZoneRecord) (a : Name) where
  -- what is the same as a name that is not occluded isn't either
  free_same : (m n : Name) → same_name m n ≡ true → is_unoccluded true L a m ≡ is_unoccluded true L a n
  free_same m n s = λ j. lowered_below (one_lowered m n s j) (lowered a) && not (occluded_same true L a m n s j)

  -- an owner that is not occluded exists
  pub owner_exists : (x : Name) → owns L x ≡ true → is_unoccluded true L a x ≡ true → name_exists L a x ≡ true
  owner_exists x own free =
      and_from (is_at_or_below x a) (list_any (λ n. is_at_or_below n x) (unoccluded_owners true L a)) (free_parts L a x free).0
      (any_owner true L a x (λ k. lowered_below k (lowered x)) own free (below_itself x))

  -- ---- the highest occluder

  pub record IsHighest (x o : Name) : Type 0 where
    pub over : occludes true L a o ≡ true
    pub free : is_unoccluded true L a o ≡ true
    pub under : is_strictly_below x o ≡ true

  pub highest_of : (x : Name) → is_occluded true L a x ≡ true → (d : Name) × (highest_occluder L a x ≡ Some d) × IsHighest x d
  highest_of x e =
      let top = top_occluder true L a x e in
      let r = highest_is L a x top.0.name top.0.over (free_parts L a top.0.name top.1).1 top.0.under in (
        r.0,
        r.1,
        record {
          over = occludes_same true L a r.0 top.0.name r.2 ∙ top.0.over;
          free = free_same r.0 top.0.name r.2 ∙ top.1;
          under = strictly_same x r.0 top.0.name r.2 ∙ top.0.under;
        },
      )

  some_highest : (x o : Name) → highest_occluder L a x ≡ Some o → IsHighest x o
  some_highest x o e = grind (arith, common_steps, highest_of, none_above)

  none_highest : (x : Name) → highest_occluder L a x ≡ None → is_occluded true L a x ≡ false
  none_highest x e = grind (arith, common_steps, highest_of)

  module _ (assume : Bool) (x : Name) (t : ℕ) where
    abbrev So : Answer → Type 0
    So = IsSo L a assume x t

    abbrev w : Name
    w = wildcard_of L a x

    -- ---- what the zone's answer says is so

    module _ (here : IsHere L a x t) where
      existing_so : name_exists L a x ≡ true → So (owned_answer (is_zone_cut L a x) (owns_type L a assume x) (length x) t)
      existing_so there =
          let cut : Bool = is_zone_cut L a x in
          let owned : ℕ → Bool = owns_type L a assume x in
          let last : Answer = cond (owned nxname) NxName NoData in
          choose_by So (cut && not (t == ds)) (Referral (length x)) (cond (owned (asked_type t)) Has (cond cut NoDs (cond (owned cname) Alias last)))
          (λ e.
          let p = and_parts cut (not (t == ds)) e in
          record { asks = here.asks; cut = x; count = refl; is_cut = p.0; free = here.free; below = inr (same_itself x x refl, not-true (t == ds) p.1) })
          (λ e. choose_by So (owned (asked_type t)) Has (cond cut NoDs (cond (owned cname) Alias last)) (λ f. (here, f, e))
          (λ f. choose_by So cut NoDs (cond (owned cname) Alias last)
          (λ g. (here, f, g, not-false (t == ds) (ap (λ b. b && not (t == ds)) (sym g) ∙ e)))
          (λ g. choose_by So (owned cname) Alias last (λ h. (here, f, g, h))
          (λ h. choose_by So (owned nxname) NxName NoData (λ k. (here, f, g, h, k)) (λ k. (here, f, g, h, k, there))))))

      missing_so : name_exists L a x ≡ false → So (missing_answer L a assume (length (encloser L a x)) w t)
      missing_so gone =
          let absent : IsAbsent L a x t (length (encloser L a x)) = record {
            asks = here.asks;
            missing = and_from (is_unoccluded true L a x) (not (name_exists L a x)) here.free (ap not gone);
            child = here.child;
            count = refl;
          } in
          search (rules, (choose_by So), not-true, not-false) depth 12

    module _ (asks : is_meta_type t ≡ false) (low : is_at_or_below x a ≡ true) (child : is_at_parent a x t ≡ false) where
      occluded_so : (o : Name) → highest_occluder L a x ≡ Some o → So (occluded_answer L a o)
      occluded_so o e = grind (arith, common_steps, (some_highest x o e), and_parts)

      free_here : highest_occluder L a x ≡ None → IsHere L a x t
      free_here none = grind (arith, common_steps, none_highest)

      inside_so : (o : Option Name) → highest_occluder L a x ≡ o → So (inside_answer L a assume x t o)
      inside_so None e = let here = free_here e in search (rules, (choose_by So), (existing_so here), (missing_so here))
      inside_so (Some o) e = occluded_so o e

    pub answer_so : So (zone_answer L a assume x t)
    answer_so = search (rules, (choose_by So), not-true, not-false, inside_so) depth 12

    -- ---- and where it is so, that is the answer

    at_inside : is_meta_type t ≡ false → is_at_or_below x a ≡ true → is_at_parent a x t ≡ false
        → zone_answer L a assume x t ≡ inside_answer L a assume x t (highest_occluder L a x)
    at_inside asks low child =
        λ j. cond (not (low j)) OutsideZone (cond (child j) AtParent (cond (asks j) NotProven (inside_answer L a assume x t (highest_occluder L a x))))

    -- below a name of the zone there is no apex
    apart : (o : Name) → is_strictly_below x o ≡ true → is_at_or_below o a ≡ true → is_at_parent a x t ≡ false
    apart o under low =
        let p = and_parts (is_at_or_below x a) (not (same_name x a)) (strictly_trans x o a under low) in
        let other = not-true (same_name x a) p.1 in (λ j. (t == ds) && (other j && nat_lt 0 (length a))) ∙ and_right (t == ds) false refl

    at_highest : is_meta_type t ≡ false → (o : Name) → IsHighest x o → zone_answer L a assume x t ≡ occluded_answer L a o
    at_highest asks o h =
        let up = free_parts L a o h.free in
        let low = below_strictly x a (strictly_trans x o a h.under up.0) in
        let r = highest_is L a x o h.over up.1 h.under in
        at_inside asks low (apart o h.under up.0) ∙ ap (inside_answer L a assume x t) r.1
        ∙ (λ j. cond (cut_same L a r.0 o r.2 j) (Referral (same_count r.0 o r.2 j)) (Redirected (same_count r.0 o r.2 j)))

    at_free : IsHere L a x t → zone_answer L a assume x t ≡ unoccluded_answer L a assume x t
    at_free h = grind (arith, common_steps, at_inside, and_parts, none_above, free_parts)

    at_existing : IsHere L a x t → name_exists L a x ≡ true
        → zone_answer L a assume x t ≡ owned_answer (is_zone_cut L a x) (owns_type L a assume x) (length x) t
    at_existing h there = grind (arith, common_steps, at_free)

    at_missing : (n : ℕ) → IsAbsent L a x t n → zone_answer L a assume x t ≡ missing_answer L a assume (length (encloser L a x)) w t
    at_missing n h = grind (arith, common_steps, at_free)

    owned_exists : IsHere L a x t → (s : ℕ) → owns_type L a assume x s ≡ true → name_exists L a x ≡ true
    owned_exists h s o = owner_exists x (and_parts (owns L x) (nsec_lists L a assume x s) o).0 h.free

    referred : (n : ℕ) → IsReferred L a x t n → zone_answer L a assume x t ≡ Referral n
    referred n h =
        elim h.below [
          | inl under ↦
              at_highest h.asks h.cut (record { over = cut_occludes L a h.cut h.is_cut; free = h.free; under = under })
              ∙ rw h.is_cut (ap Referral (sym h.count))
          | inr same ↦
              let free = free_same x h.cut same.0 ∙ h.free in
              let cut = cut_same L a x h.cut same.0 ∙ h.is_cut in
              let here : IsHere L a x t = record { asks = h.asks; free = free; child = λ j. same.1 j && (same_name x a && nat_lt 0 (length a)) } in
              at_existing here (owner_exists x (cut_owns L a x cut) free) ∙ rw (cut, same.1) (ap Referral (same_count x h.cut same.0 ∙ sym h.count))
        ]

    redirected : (n : ℕ) → IsRedirected L a x t n → zone_answer L a assume x t ≡ Redirected n
    redirected n h =
        let over = dname_occludes L a h.owner (free_parts L a h.owner h.free).0 h.owns_dname in
        at_highest h.asks h.owner (record { over = over; free = h.free; under = h.below }) ∙ rw h.no_cut (ap Redirected (sym h.count))

    pub so_answer : (v : Answer) → So v → zone_answer L a assume x t ≡ v
    so_answer OutsideZone e = rw e
    so_answer AtParent e = grind (arith, common_steps, one_lowered)
    so_answer (Referral n) h = referred n h
    so_answer (Redirected n) h = redirected n h
    so_answer Has h = grind (arith, common_steps, at_existing, owned_exists)
    so_answer NoDs h = grind (arith, common_steps, at_existing, owner_exists, cut_owns)
    so_answer Alias h = at_existing h.0 (owned_exists h.0 cname h.3) ∙ rw (h.1, h.3, h.2)
    so_answer NxName h =
        at_existing h.0 (owned_exists h.0 nxname h.4) ∙ fifth (is_zone_cut L a x) (t == ds) (owns_type L a assume x (asked_type t))
        (owns_type L a assume x cname) (owns_type L a assume x nxname) (Referral (length x)) h.2 h.1 h.3 h.4
    so_answer NoData h = grind (arith, common_steps, at_existing)
    so_answer (Wildcard n) h = at_missing n h.0 ∙ rw (h.1, h.2) (ap Wildcard (sym h.0.count))
    so_answer (WildcardAlias n) h = at_missing n h.0 ∙ rw (h.1, h.2, h.3) (ap WildcardAlias (sym h.0.count))
    so_answer (WildcardNoData n) h = at_missing n h.0 ∙ rw (h.1, h.2, h.3) (ap WildcardNoData (sym h.0.count))
    so_answer (NameError n) h = at_missing n h.0 ∙ rw h.1 (ap NameError (sym h.0.count))
    so_answer (MayBeUnsigned n) h = absurd h
    so_answer (NoCloserName n) h = absurd h
    so_answer TooManyIterations h = absurd h
    so_answer NotProven h = rw (h.0, h.1, h.2)
