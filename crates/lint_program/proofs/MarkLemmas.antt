-- Each fault of the records has a note.
use Rattle.std.proofs.Common.{◌≡◌, ◌≢◌, ◌&&◌, ℕ, nat_eq, List, [], ◌∷◌, ◌++◌, Some, None, Option, Bool, true, arith, cond, length}
use Rattle.std.proofs.Common.{length-append, refl, sym, subst, append_assoc, ap, ◌∙◌, inl, inr, eqb-true}
use Rattle.std.proofs.lemmas.{Bool.{cases_Bool, eqb-false}, Grind.common_steps}
use Rattle.std.specs.{List.{find}, Prelude.IsSome}
use Rattle.domain_names.specs.Name.{Name}
use Rattle.domain_base.specs.Types as rtypes
use Rattle.domain_zone.proofs.{NameLemmas.same_itself, PairLemmas.{In, find_none, in_either, in_front, in_middle}}
use Rattle.domain_borrowed.specs.Data.{RawRecord}
use Rattle.lint_program.specs.Notes.{earlier, first_in, group_of, is_apex_soa, is_group, look_of, Deserves, Found, FindsNothing, Found.{more, nothing}, Mark}
use Rattle.lint_program.specs.declared.looks.{Look.Look, Reason.{Reason, TheVariants.{NoSoa, SecondSoa, StraySoa, OtherClass, OtherTtl, Outside}}}
use Rattle.lint_program.{specs.declared.looks.Reason.TheVariants.{BesideAlias, OddData, Parameters}, proofs.NoteLemmas.{same_first, split_last}}
use Rattle.lint_program.specs.declared.looks.Look.TheVariants as look

-- ---- A record that deserves one note alone of a look has it.

-- nothing is found where the record deserves no note
finds_not : (l : Look) (a : Name) (first : Option RawRecord) (r : RawRecord) (reason : Reason) → look_of reason ≡ l → FindsNothing l a first r
    → Deserves reason a first r → ⊥
finds_not l a first r NoSoa same none d = d
finds_not l a first r SecondSoa same none d = (subst (λ k. FindsNothing k a first r) (sym same) none).0 d
finds_not l a first r StraySoa same none d = (subst (λ k. FindsNothing k a first r) (sym same) none).1 d
finds_not l a first r OtherClass same none d = subst (λ k. FindsNothing k a first r) (sym same) none d
finds_not l a first r OtherTtl same none d = subst (λ k. FindsNothing k a first r) (sym same) none d
finds_not l a first r Outside same none d = subst (λ k. FindsNothing k a first r) (sym same) none d
finds_not l a first r BesideAlias same none d = subst (λ k. FindsNothing k a first r) (sym same) none d
finds_not l a first r OddData same none d = (subst (λ k. FindsNothing k a first r) (sym same) none).0 d
finds_not l a first r Parameters same none d = (subst (λ k. FindsNothing k a first r) (sym same) none).1 d

pub in_back : (xs ys : List Mark) (m : Mark) → In m ys → In m (xs ++ ys)
in_back [] ys m i = i
in_back (x ∷ xs) ys m i = inr (in_back xs ys m i)

moved : (Q : List RawRecord → RawRecord → Type 0) (x y : List RawRecord) (u v : RawRecord) → x ≡ y → u ≡ v → Q x u → Q y v
moved Q x y u v e f h = subst (λ w. Q w v) e (subst (Q x) f h)

-- one of these marks has the reason
abbrev pub HasReason : List Mark → Reason → Type 0
HasReason ms reason = (m : Mark) × In m ms × (m.reason ≡ reason)

module _ (l : Look) (a : Name) where
  marked : (rs : List RawRecord) (ns : List ℕ) (ms : List Mark) → Found l a rs ns ms → (before after : List RawRecord) (r : RawRecord)
      → rs ≡ before ++ r ∷ after → (reason : Reason) → look_of reason ≡ l → Deserves reason a (earlier l a before r) r
      → ((other : Reason) → look_of other ≡ l → Deserves other a (earlier l a before r) r → other ≡ reason) → HasReason ms reason
  marked rs ns ms (nothing _ _) before after r are reason same d only =
      absurd (let k = ap length are in let m = length-append before (r ∷ after) in omega (arith, k, m))
  marked rs ns ms (more _ _ old numbers marks s k last found told) before after r are reason same d only =
      elim (split_last old before after s r are) [
        | inl p ↦ elim told [
          | inl t ↦ (
            record { reason = t.0; place = Some k },
            in_back marks last _ (subst (In _) (sym t.3) (inl refl)),
            only t.0 t.1 (moved (λ x u. Deserves t.0 a (earlier l a x u) u) old before s r p.1 p.2 t.2),
          )
          | inr t ↦ absurd (finds_not l a (earlier l a old s) s reason same t.0
              (moved (λ x u. Deserves reason a (earlier l a x u) u) before old r s (sym p.1) (sym p.2) d))
        ]
        | inr w ↦
            let m = marked old numbers marks found before w.0 r w.2 reason same d only in
            (m.0, in_front marks last m.0 m.1, m.2)
      ]

-- the place of a record
split_at : (xs : List RawRecord) (x : RawRecord) → In x xs → (before : List RawRecord) × (after : List RawRecord) × (xs ≡ before ++ x ∷ after)
split_at [] x i = absurd i
split_at (y ∷ xs) x (inl e) = ([], xs, λ i. e i ∷ xs)
split_at (y ∷ xs) x (inr i) = let s = split_at xs x i in (y ∷ s.0, s.1, ap (λ t. y ∷ t) s.2)

-- ---- Classes.

head : List RawRecord → Option RawRecord
head [] = None
head (r ∷ rs) = Some r

first_any : (a : Name) (rs : List RawRecord) (r : RawRecord) → earlier look.Classes a rs r ≡ head rs
unfolding head
first_any a [] r = refl
first_any a (s ∷ rs) r = ap (λ b. cond (b && true) (Some s) (first_in look.Classes a rs (a, 0))) (same_itself a a refl)

only_class : (other : Reason) → look_of other ≡ look.Classes → other ≡ OtherClass
only_class OtherClass e = refl
only_class _ e = absurd (cc)

module _ (a : Name) (rs : List RawRecord) (ns : List ℕ) (ms : List Mark) (found : Found look.Classes a rs ns ms) (none : HasReason ms OtherClass → ⊥) where
  class_as : (before after : List RawRecord) (r : RawRecord) → rs ≡ before ++ r ∷ after → (h : RawRecord) → head rs ≡ Some h → r.class ≡ h.class
  unfolding head
  class_as [] after r are h is = let e : Some r ≡ Some h = sym (ap head are) ∙ is in cc
  class_as (b ∷ bs) after r are h is =
      let e : Some b ≡ Some h = sym (ap head are) ∙ is in
      let same : b ≡ h = cc in
      elim (cases_Bool (nat_eq r.class b.class)) [
        | inl f ↦ eqb-true r.class b.class f ∙ ap (λ q. q.class) same
        | inr f ↦ absurd (none (marked look.Classes a rs ns ms found (b ∷ bs) after r are OtherClass refl
            (subst (λ o. Deserves OtherClass a o r) (sym (first_any a (b ∷ bs) r)) (eqb-false r.class b.class f))
            (λ other look d. only_class other look)))
      ]

  pub classes_same : (x y : RawRecord) → In x rs → In y rs → x.class ≡ y.class
  unfolding head
  classes_same x y i j = by (head rs) refl
    where
      by : (o : Option RawRecord) → head rs ≡ o → x.class ≡ y.class
      by None e = absurd (elim rs as (λ t. head t ≡ None → In x t → ⊥) [ [] ↦ λ f k. k | b ∷ bs ↦ λ f k. cc ] e i)
      by (Some h) e =
          let s = split_at rs x i in
          let t = split_at rs y j in
          class_as s.0 s.1 x s.2 h e ∙ sym (class_as t.0 t.1 y t.2 h e)

-- ---- TTLs.

find_front : (p : RawRecord → Bool) (xs ys : List RawRecord) (f : RawRecord) → find p xs ≡ Some f → find p (xs ++ ys) ≡ Some f
find_front p [] ys f e = absurd (cc)
find_front p (x ∷ xs) ys f e = grind (arith, common_steps, (find_front p xs ys f))

find_past : (p : RawRecord → Bool) (xs ys : List RawRecord) → find p xs ≡ None → find p (xs ++ ys) ≡ find p ys
find_past p [] ys e = refl
find_past p (x ∷ xs) ys e = grind (arith, common_steps, (find_past p xs ys))

own_group : (r : RawRecord) → is_group (group_of look.Ttls [] r) (group_of look.Ttls [] r) ≡ true
own_group r = grind (arith, common_steps, (same_itself r.owner r.owner refl))

only_ttl : (other : Reason) → look_of other ≡ look.Ttls → other ≡ OtherTtl
only_ttl OtherTtl e = refl
only_ttl _ e = absurd (cc)

module _ (a : Name) (rs : List RawRecord) (ns : List ℕ) (ms : List Mark) (found : Found look.Ttls a rs ns ms) (none : HasReason ms OtherTtl → ⊥) where
  -- a record has the TTL of the first of its group
  ttl_first : (r : RawRecord) → In r rs → r.«data».rtype ≢ rtypes.rrsig
      → (f : RawRecord) × (first_in look.Ttls a rs (group_of look.Ttls a r) ≡ Some f) × (r.ttl ≡ f.ttl)
  ttl_first r i other =
      let s = split_at rs r i in
      by s.0 s.1 s.2 (earlier look.Ttls a s.0 r) refl
    where
      by : (before after : List RawRecord) → rs ≡ before ++ r ∷ after → (o : Option RawRecord) → earlier look.Ttls a before r ≡ o
          → (f : RawRecord) × (first_in look.Ttls a rs (group_of look.Ttls a r) ≡ Some f) × (r.ttl ≡ f.ttl)
      by before after are None e = (
        r,
        ap (λ t. first_in look.Ttls a t (group_of look.Ttls a r)) are ∙ find_past _ before (r ∷ after) e
            ∙ ap (λ b. cond b (Some r) (first_in look.Ttls a after (group_of look.Ttls a r))) (own_group r),
        refl,
      )
      by before after are (Some f) e = (
        f,
        ap (λ t. first_in look.Ttls a t (group_of look.Ttls a r)) are ∙ find_front _ before (r ∷ after) f e,
        elim (cases_Bool (nat_eq r.ttl f.ttl)) [
          | inl g ↦ eqb-true r.ttl f.ttl g
          | inr g ↦ absurd (none (marked look.Ttls a rs ns ms found before after r are OtherTtl refl
              (subst (λ o. Deserves OtherTtl a o r) (sym e) (other, eqb-false r.ttl f.ttl g)) (λ other look d. only_ttl other look)))
        ],
      )

  pub ttls_same : (x y : RawRecord) → In x rs → In y rs → x.«data».rtype ≢ rtypes.rrsig
      → is_group (group_of look.Ttls a x) (group_of look.Ttls a y) ≡ true → y.«data».rtype ≢ rtypes.rrsig → x.ttl ≡ y.ttl
  ttls_same x y i j other same also =
      let f = ttl_first x i other in
      let g = ttl_first y j also in
      let e : Some f.0 ≡ Some g.0 = sym f.1 ∙ sym (same_first look.Ttls a rs (group_of look.Ttls a x) (group_of look.Ttls a y) same) ∙ g.1 in
      let is : f.0 ≡ g.0 = cc in
      f.2 ∙ ap (λ q. q.ttl) is ∙ sym g.2

-- ---- SOA records.

only_second : (a : Name) (first : Option RawRecord) (r : RawRecord) → is_apex_soa a r ≡ true → (other : Reason) → look_of other ≡ look.Soas
    → Deserves other a first r → other ≡ SecondSoa
only_second a first r is NoSoa e d = absurd d
only_second a first r is SecondSoa e d = refl
only_second a first r is StraySoa e d = absurd (grind (arith, common_steps))
only_second a first r is _ e d = absurd (cc)

module _ (a : Name) (rs : List RawRecord) (ns : List ℕ) (ms : List Mark) (found : Found look.Soas a rs ns ms) (none : HasReason ms SecondSoa → ⊥) where
  -- no SOA record of the apex comes before another
  soa_first : (before after : List RawRecord) (r : RawRecord) → rs ≡ before ++ r ∷ after → is_apex_soa a r ≡ true
      → (s : RawRecord) → In s before → is_apex_soa a s ≡ true → ⊥
  soa_first before after r are is s i same =
      by (earlier look.Soas a before r) refl
    where
      by : (o : Option RawRecord) → earlier look.Soas a before r ≡ o → ⊥
      by None e = grind (arith, common_steps, (find_none _ before e s i), (same_itself a a refl))
      by (Some f) e =
          none (marked look.Soas a rs ns ms found before after r are SecondSoa refl
          (is, subst IsSome (sym e) refl) (only_second a _ r is))

  pub one_soa : (x y : RawRecord) → In x rs → In y rs → is_apex_soa a x ≡ true → is_apex_soa a y ≡ true → x ≡ y
  one_soa x y i j p q =
      let s = split_at rs x i in
      elim (in_either s.0 (x ∷ s.1) y (subst (In y) s.2 j)) [
        | inl k ↦ absurd (soa_first s.0 s.1 x s.2 p y k q)
        | inr k ↦ elim k [
          | inl e ↦ e
          | inr k ↦
              let t = split_at s.1 y k in
              absurd (soa_first (s.0 ++ x ∷ t.0) t.1 y (s.2 ∙ ap (λ u. s.0 ++ x ∷ u) t.2 ∙ sym (append_assoc s.0 (x ∷ t.0) (y ∷ t.1))) q x
              (in_middle s.0 x t.0) p)
        ]
      ]
