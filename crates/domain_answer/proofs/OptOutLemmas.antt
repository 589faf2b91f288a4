-- With opt-out a zone answers as it does with an NSEC chain, or leaves the name open: it does so for each zone cut that the chain leaves out, and for
-- every name below one.
use Rattle.std.proofs.Common.{◌≡◌, ℕ, Bool, true, false, cond, not, ◌&&◌, ◌||◌, List, length, refl, sym, ap, ◌∙◌, subst, arith, inl, inr, ◌⊎◌, ◌≢◌}
use Rattle.std.proofs.lemmas.{Bool.{and_from, and_parts, cases_Bool, cases_lt, false_from_ne_true, false≢true, true_from_ne_false}, Grind.common_steps}
use Rattle.std.{proofs.Common.{◌<◌, ◌≤◌}, specs.{List.list_any, Prelude.◌==◌}}
use Rattle.domain_base.specs.Types.{cname, dname, ds}
use Rattle.domain_chain_rdata.specs.Rdata.{is_opt_out}
use Rattle.domain_names.specs.Name.{is_at_or_below, is_strictly_below, same_name, Name}
use Rattle.domain_zone.proofs.{NameLemmas.{below_itself, below_length, below_longer, below_trans, strictly_longer}, PairLemmas.{In, in_filter}}
use Rattle.domain_zone.proofs.WalkLemmas.{any_in, below_occluder, in_any}
use Rattle.domain_zone.specs.{Enclosers.{IsClosestEncloser, exists_over}, Zone.{ZoneRecord, is_occluded, is_unoccluded, is_zone_cut}}
use Rattle.domain_zone.specs.Zone.{occludes, unoccluded_owners}
use Rattle.domain_nsec3.specs.Chain.{ChainConfig, is_excluded, nsec3_lists, original_owners}
use Rattle.domain_checker.proofs.MeantLemmas.{choose_by, closest_is, cut_same, owner_high, owner_unoccluded, same_count, strictly_trans, top_occluder}
use Rattle.domain_checker.specs.HashedVerdict.{is_below_chain_cut}
use Rattle.domain_answer.proofs.EncloserLemmas.{answer_so, below_strictly, cut_occludes, dname_occludes, exists_low, free_parts, highest_is, name_of}
use Rattle.domain_answer.proofs.EncloserLemmas.{none_above, none_below, owned_alike, strictly_enclosed, strictly_other, strictly_same}
use Rattle.domain_answer.proofs.HashedAnswerLemmas.{IgnoresSpelling, asked_apart, dname_owned, signed_at, types_alike, zone_alike}
use Rattle.domain_answer.specs.HashedReading.{IsLeftOpen, hashed_encloser, hashed_exists, hashed_inside_answer, hashed_missing_answer, hashed_zone_answer}
use Rattle.domain_answer.specs.HashedReading.{hashed_wildcard_answer, is_of_one_chain}
use Rattle.domain_answer.specs.Reading.{IsSo, LeavesOutBelowDname, needs_no_records}
use Rattle.domain_answer.specs.ZoneAnswer.{asked_type, expanded_answer, highest_occluder, inside_answer, is_at_parent, is_meta_type, name_exists, nxname}
use Rattle.domain_answer.specs.ZoneAnswer.{owned_answer, owns_type, wildcard_below, zone_answer}
use Rattle.domain_answer.specs.declared.answer.Answer.{Answer, TheVariants.{AtParent, MayBeUnsigned, NotProven, OutsideZone, Redirected, Referral}}

-- ---- names of the chain

module _ (L : List ZoneRecord) (a : Name) (config : ChainConfig) (leaves : LeavesOutBelowDname L a config.occlude_below_dname) where
  abbrev names : List Name
  names = original_owners L a config

  -- each is a name of the zone
  in_zone : (n : Name) → In n names → In n (unoccluded_owners true L a)
  in_zone n i =
      subst (In n) leaves (in_filter (λ m. not (is_excluded L a config m)) (unoccluded_owners config.occlude_below_dname L a) n i).0

  high : (n : Name) → In n names → is_occluded true L a n ≡ false
  high n i = owner_high true L a n (in_zone n i)

  owner_there : (n : Name) → In n names → hashed_exists L a config n ≡ true
  owner_there n i =
      and_from (is_at_or_below n a) (list_any (λ m. is_at_or_below m n) names) (free_parts L a n (owner_unoccluded true L a n (in_zone n i))).0
      (in_any (λ m. is_at_or_below m n) names n i (below_itself n))

  -- what exists in the chain exists in the zone, and is not occluded
  exists_zone : (y : Name) → hashed_exists L a config y ≡ true → name_exists L a y ≡ true
  exists_zone y there =
      let m = name_of names a y there in
      and_from (is_at_or_below y a) (list_any (λ n. is_at_or_below n y) (unoccluded_owners true L a)) (exists_low names a y there)
      (in_any (λ n. is_at_or_below n y) (unoccluded_owners true L a) m.0 (in_zone m.0 m.1) m.2)

  exists_high : (y : Name) → hashed_exists L a config y ≡ true → is_occluded true L a y ≡ false
  exists_high y there =
      false_from_ne_true (is_occluded true L a y) (λ e.
      let top = (top_occluder true L a y e).0 in none_below L a names high top.name y top.over there top.under)

  -- a zone cut above x that exists in the chain is a cut of the chain
  cut_over : (d x : Name) → hashed_exists L a config d ≡ true → is_zone_cut L a d ≡ true → is_strictly_below x d ≡ true
      → is_below_chain_cut L a config x ≡ true
  cut_over d x there c under =
      let m = name_of names a d there in
      let same = true_from_ne_false (same_name m.0 d) (λ s.
      false≢true (sym (high m.0 m.1) ∙ below_occluder true L a d m.0 (cut_occludes L a d c) (strictly_other m.0 d m.2 s))) in
      in_any (λ n. is_zone_cut L a n && is_strictly_below x n) names m.0 m.1
      (and_from (is_zone_cut L a m.0) (is_strictly_below x m.0) (cut_same L a m.0 d same ∙ c) (strictly_same x m.0 d same ∙ under))

  -- ---- a name at or below the apex, which the chain has

  module _ (apex : hashed_exists L a config a ≡ true) (x : Name) (low : is_at_or_below x a ≡ true) where
    abbrev en : Name
    en = hashed_encloser L a config x

    closest : IsClosestEncloser names a x en
    closest = closest_is names a x apex low

    en_low : is_at_or_below en a ≡ true
    en_low = exists_low names a en closest.found

    -- a name that occludes, and that exists above x, is its closest encloser
    en_same : (d : Name) → occludes true L a d ≡ true → hashed_exists L a config d ≡ true → is_strictly_below x d ≡ true → same_name en d ≡ true
    en_same d over there under =
        let up = below_strictly x d under in
        let down = below_longer x en d closest.above up (closest.longest d there up) in
        true_from_ne_false (same_name en d) (λ s. none_below L a names high d en over closest.found (strictly_other en d down s))

    module _ (t : ℕ) (apart : is_of_one_chain a x t ≡ false) where
      abbrev assume : Bool
      assume = config.assume_dnskeys_will_be_added

      abbrev said : Answer
      said = hashed_inside_answer L a config x t

      abbrev zone : Answer
      zone = inside_answer L a assume x t (highest_occluder L a x)

      at_cut : is_below_chain_cut L a config x ≡ true → said ≡ zone
      at_cut u =
          let c = any_in (λ n. is_zone_cut L a n && is_strictly_below x n) names u in
          let p = and_parts (is_zone_cut L a c.0) (is_strictly_below x c.0) c.2 in
          let over = cut_occludes L a c.0 p.0 in
          let top = highest_is L a x c.0 over (high c.0 c.1) p.1 in
          let same = en_same c.0 over (owner_there c.0 c.1) p.1 in
          rw (u, top.1, cut_same L a top.0 c.0 top.2 ∙ p.0) (ap Referral (same_count en c.0 same ∙ sym (same_count top.0 c.0 top.2)))

      existing : owned_answer (is_zone_cut L a x) (nsec3_lists L a config x) (length x) t
          ≡ owned_answer (is_zone_cut L a x) (owns_type L a assume x) (length x) t
      existing =
          owned_alike (is_zone_cut L a x) (is_zone_cut L a x) (nsec3_lists L a config x) (owns_type L a assume x) (length x) (length x) t refl
          (λ e. types_alike L a config x (asked_type t) (asked_apart a x t apart) (signed_at t (is_zone_cut L a x) e))
          (types_alike L a config x cname refl refl) (types_alike L a config x nxname refl refl) refl

      at_existing : is_below_chain_cut L a config x ≡ false → hashed_exists L a config x ≡ true → said ≡ zone
      at_existing uncut there = rw (uncut, there, none_above L a x (exists_high x there), exists_zone x there) existing

      at_dname : is_below_chain_cut L a config x ≡ false → hashed_exists L a config x ≡ false → nsec3_lists L a config en dname ≡ true → said ≡ zone
      at_dname u gone d =
          let over = dname_occludes L a en en_low (dname_owned L a config en d) in
          let under = strictly_enclosed names a x en closest gone in
          let uncut = false_from_ne_true (is_zone_cut L a en) (λ c. false≢true (sym u ∙ cut_over en x closest.found c under)) in
          let top = highest_is L a x en over (exists_high en closest.found) under in
          rw (u, gone, d, top.1, cut_same L a top.0 en top.2 ∙ uncut) (ap Redirected (sym (same_count top.0 en top.2)))

      said_inside : is_opt_out config.flags ≡ true → (said ≡ zone) ⊎ (said ≡ MayBeUnsigned (length en))
      said_inside out = elim (cases_Bool (is_below_chain_cut L a config x)) [
        | inl u ↦ inl (at_cut u)
        | inr u ↦ elim (cases_Bool (hashed_exists L a config x)) [
          | inl there ↦ inl (at_existing u there)
          | inr gone ↦ elim (cases_Bool (nsec3_lists L a config en dname)) [
            | inl d ↦ inl (at_dname u gone d)
            | inr d ↦ inr (rw (u, gone, d, out))
          ]
        ]
      ]

    -- ---- a zone cut d that the chain leaves out, and that x is at or below

    module _ (d : Name) (is_cut : is_zone_cut L a d ≡ true) (free : is_unoccluded true L a d ≡ true) (out : hashed_exists L a config d ≡ false)
        (under : is_at_or_below x d ≡ true) where
      -- no name of the chain is at or below d
      never : (y : Name) → hashed_exists L a config y ≡ true → is_at_or_below y d ≡ true → ⊥
      never y there down =
          let m = name_of names a y there in
          let low_d = (free_parts L a d free).0 in
          false≢true (sym out ∙ and_from (is_at_or_below d a) (list_any (λ n. is_at_or_below n d) names) low_d
          (in_any (λ n. is_at_or_below n d) names m.0 m.1 (below_trans m.0 y d m.2 down)))

      -- nor does one above x occlude
      unoccluding : (c : Name) → hashed_exists L a config c ≡ true → occludes true L a c ≡ true → is_at_or_below x c ≡ true → ⊥
      unoccluding c there over up = elim (cases_lt (length c) (length d)) [
        | inl fewer ↦
            let down = below_longer x d c under up (omega arith) in
            let other = false_from_ne_true (same_name d c) (λ s. let n = same_count d c s in omega arith) in
            false≢true (sym (free_parts L a d free).1 ∙ below_occluder true L a c d over (strictly_other d c down other))
        | inr more ↦ never c there (below_longer x c d up under (omega arith))
      ]

      uncut_above : is_below_chain_cut L a config x ≡ false
      uncut_above =
          false_from_ne_true (is_below_chain_cut L a config x) (λ u.
          let c = any_in (λ n. is_zone_cut L a n && is_strictly_below x n) names u in
          let p = and_parts (is_zone_cut L a c.0) (is_strictly_below x c.0) c.2 in
          unoccluding c.0 (owner_there c.0 c.1) (cut_occludes L a c.0 p.0) (below_strictly x c.0 p.1))

      gone_below : hashed_exists L a config x ≡ false
      gone_below = false_from_ne_true (hashed_exists L a config x) (λ there. never x there under)

      undirected : nsec3_lists L a config en dname ≡ false
      undirected =
          false_from_ne_true (nsec3_lists L a config en dname) (λ h.
          unoccluding en closest.found (dname_occludes L a en en_low (dname_owned L a config en h)) closest.above)

-- ---- what the zone answers

-- of a name in the zone, and a question that is no other zone's and none without records, the answer is the inner one
module _ (L : List ZoneRecord) (a : Name) (config : ChainConfig) (x : Name) (t : ℕ) where
  whole_is : is_at_or_below x a ≡ true → is_at_parent a x t ≡ false → is_meta_type t ≡ false
      → hashed_zone_answer L a config x t ≡ hashed_inside_answer L a config x t
  whole_is low apart asks = rw (low, apart, asks)

  -- the same holds of both answers
  abbrev IsEither : Answer → Answer → Type 0
  IsEither u v = (u ≡ v) ⊎ ((n : ℕ) × (u ≡ MayBeUnsigned n))

  either_alike : (low parent meta : Bool) (u v : Answer) → (low ≡ true → IsEither u v)
      → IsEither (cond (not low) OutsideZone (cond parent AtParent (cond meta NotProven u)))
      (cond (not low) OutsideZone (cond parent AtParent (cond meta NotProven v)))
  either_alike false parent meta u v f = inl refl
  either_alike true true meta u v f = inl refl
  either_alike true false true u v f = inl refl
  either_alike true false false u v f = f refl

  pub opt_out_alike : LeavesOutBelowDname L a config.occlude_below_dname → IgnoresSpelling L a config → hashed_exists L a config a ≡ true
      → is_of_one_chain a x t ≡ false → IsEither (hashed_zone_answer L a config x t) (zone_answer L a config.assume_dnskeys_will_be_added x t)
  opt_out_alike leaves alike apex apart = elim (cases_Bool (is_opt_out config.flags)) [
    | inr all ↦ inl (zone_alike L a config all leaves alike (exists_zone L a config leaves a apex) x t apart)
    | inl out ↦ either_alike (is_at_or_below x a) (is_at_parent a x t) (is_meta_type t) _ _ (λ low.
        elim (said_inside L a config leaves apex x low t apart out) [
          | inl same ↦ inl same
          | inr left ↦ inr (length (hashed_encloser L a config x), left)
        ])
  ]

  -- ---- names that are left open

  pub open_says : (n : ℕ) → IsLeftOpen L a config x t n → hashed_zone_answer L a config x t ≡ MayBeUnsigned n
  open_says n h = grind (arith, common_steps)

  abbrev IsOpen : Answer → Type 0
  IsOpen v = (n : ℕ) → v ≡ MayBeUnsigned n → IsLeftOpen L a config x t n

  never_owned : (cut : Bool) (owned : ℕ → Bool) (m n : ℕ) → owned_answer cut owned m t ≢ MayBeUnsigned n
  never_owned cut owned m n e = grind (arith, common_steps)

  never_expanded : (cut : Bool) (owned : ℕ → Bool) (m n : ℕ) → expanded_answer cut owned m t ≢ MayBeUnsigned n
  never_expanded cut owned m n e = grind (arith, common_steps)

  never_wild : (m : ℕ) (w : Name) (n : ℕ) → hashed_wildcard_answer L a config m w t ≢ MayBeUnsigned n
  never_wild m w n =
      choose_by (λ v. v ≢ MayBeUnsigned n) (not (hashed_exists L a config w)) _ _ (λ _ e. absurd (cc))
      (λ _. never_expanded (is_zone_cut L a w) (nsec3_lists L a config w) m n)

  none_open : (low parent meta : Bool) (u : Answer) (n : ℕ) → cond (not low) OutsideZone (cond parent AtParent (cond meta NotProven u)) ≡ MayBeUnsigned n
      → ((not low || (parent || meta)) ≡ false) × (u ≡ MayBeUnsigned n)
  none_open false parent meta u n e = absurd (cc)
  none_open true true meta u n e = absurd (cc)
  none_open true false true u n e = absurd (cc)
  none_open true false false u n e = (refl, e)

  inner_open : needs_no_records a x t ≡ false → IsOpen (hashed_inside_answer L a config x t)
  inner_open needs =
      choose_by IsOpen (is_below_chain_cut L a config x) _ _ (λ u n e. absurd (cc)) (λ uncut.
      choose_by IsOpen (hashed_exists L a config x) _ _
      (λ there n e. absurd (never_owned (is_zone_cut L a x) (nsec3_lists L a config x) (length x) n e)) (λ gone.
      choose_by IsOpen (nsec3_lists L a config (hashed_encloser L a config x) dname) _ _ (λ d n e. absurd (cc)) (λ undirected.
      choose_by IsOpen (is_opt_out config.flags) _ _
      (λ out n e. record { asks = needs; uncut = uncut; gone = gone; undirected = undirected; opt_out = out; count = count_of n e })
      (λ all n e. absurd (never_wild (length (hashed_encloser L a config x)) (wildcard_below (hashed_encloser L a config x)) n e)))))
    where
      count_of : (n : ℕ) → MayBeUnsigned (length (hashed_encloser L a config x)) ≡ MayBeUnsigned n → n ≡ length (hashed_encloser L a config x)
      count_of n e = cc

  pub says_open : (n : ℕ) → hashed_zone_answer L a config x t ≡ MayBeUnsigned n → IsLeftOpen L a config x t n
  says_open n e =
      let parts = none_open (is_at_or_below x a) (is_at_parent a x t) (is_meta_type t) (hashed_inside_answer L a config x t) n e in
      inner_open parts.0 n parts.1

  -- ---- exactly one kind of answer

  pub one_kind : LeavesOutBelowDname L a config.occlude_below_dname → IgnoresSpelling L a config → hashed_exists L a config a ≡ true
      → is_of_one_chain a x t ≡ false → (v : Answer) → hashed_zone_answer L a config x t ≡ v
      → IsSo L a config.assume_dnskeys_will_be_added x t v ⊎ ((n : ℕ) × (v ≡ MayBeUnsigned n) × IsLeftOpen L a config x t n)
  one_kind leaves alike apex apart v e = elim (opt_out_alike leaves alike apex apart) [
    | inl same ↦
        inl (subst (IsSo L a config.assume_dnskeys_will_be_added x t) (sym same ∙ e) (answer_so L a config.assume_dnskeys_will_be_added x t))
    | inr left ↦ inr (left.0, sym e ∙ left.1, says_open left.0 left.1)
  ]

-- ---- zone cuts that are left out

pub excluded_open : (L : List ZoneRecord) (a : Name) (config : ChainConfig) (d x : Name) (t : ℕ) → LeavesOutBelowDname L a config.occlude_below_dname
    → hashed_exists L a config a ≡ true → is_opt_out config.flags ≡ true → is_zone_cut L a d ≡ true → is_unoccluded true L a d ≡ true
    → hashed_exists L a config d ≡ false → is_at_or_below x d ≡ true → is_meta_type t ≡ false
    → IsLeftOpen L a config x t (length (hashed_encloser L a config x))
excluded_open L a config d x t leaves apex out cut free gone under asks =
    let below = (and_parts (is_strictly_below d a) _ cut).0 in
    let low = below_trans x d a under (below_strictly d a below) in
    let other : same_name x a ≡ false = false_from_ne_true (same_name x a) (λ s. apex_apart x a d s under below) in
    record {
      asks = grind (arith, common_steps);
      uncut = uncut_above L a config leaves apex x low d cut free gone under;
      gone = gone_below L a config leaves apex x low d cut free gone under;
      undirected = undirected L a config leaves apex x low d cut free gone under;
      opt_out = out;
      count = refl;
    }
  where
    apex_apart : (x a d : Name) → same_name x a ≡ true → is_at_or_below x d ≡ true → is_strictly_below d a ≡ true → ⊥
    apex_apart x a d s under below =
        let n = same_count x a s in
        let m = below_length x d under in
        let k = strictly_longer d a below in
        omega arith
