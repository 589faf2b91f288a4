-- Each fault of the records has a note, and each note about a fault is one for which the records are rejected.
use Rattle.std.proofs.Common.{◌≡◌, ◌≢◌, ◌&&◌, ◌||◌, not, ℕ, ◌+◌, nat_eq, List, [], ◌∷◌, ◌++◌, Some, None, Bool, true, false, arith, cond, map}
use Rattle.std.proofs.{Common.{◌^◌, ◌<◌, ap, ◌∙◌, inl, inr, eqb-true, refl, sym, subst}, lemmas.{Bool.{and_parts, cases_Bool, eqb-false}, Cmp.tied_itself}}
use Rattle.std.proofs.lemmas.{Bool.{false≢true, not-true}, Grind.common_steps, List.Elements.recursion_from_All}
use Rattle.std.specs.{Cmp.IsTotalOrder, List.{list_any, AllByRecursion, Sorted.IsStrictlySortedBy}, Prelude.{filter, Contains}}
use Rattle.std.specs.declared.cmp.Ordering.{Ordering, TheVariants.{Less, Equal}}
use Rattle.domain_octets.specs.Octets.{Octets}
use Rattle.domain_names.specs.Name.{same_name, Name, Tokens}
use Rattle.domain_base.specs.Scan.{IsNumber}
use Rattle.domain_base.specs.Types as rtypes
use Rattle.domain_rdata.specs.{Zone.{kind_of, rtype_of}, Scan.{RdataText, own, generic}}
use Rattle.domain_rdata.specs.declared.zone_record_data.ZoneRecordData.{ZoneRecordData, TheVariants.{Soa, Unknown}}
use Rattle.domain_record.specs.Record.{record_cmp, record_cmp_total}
use Rattle.domain_records.specs.Order.{IsOneClass}
use Rattle.domain_zone.specs.Zone.{as_zone_record, clashes, has_clash, has_type, has_unequal_ttls, is_soa, numbers_of, of_only, records_of, soa_of, ZoneRecord}
use Rattle.domain_zone.proofs.{NameLemmas.{one_lowered, same_itself}, PairLemmas.{In, all_in, from_map, in_filter, in_filtered, in_front, in_map}}
use Rattle.domain_zone.proofs.WalkLemmas.{any_in, in_any}
use Rattle.domain_borrowed.{specs.Data.{raw_cmp, raw_cmp_total, raw_minimum, zone_of_raw, RawRecord}, proofs.DataLemmas.minimum_last}
use Rattle.domain_any_order.specs.{RawRecords.{raw_data, raw_view}}
use Rattle.domain_any_order.proofs.{AmongLemmas.{all_pairs, contains_in}, KeptLemmas.{clash_among, type_kept}}
use Rattle.denial_program.specs.{Answer.SortsRaw, Listing.{IsLineRecord}}
use Rattle.lint_program.specs.Faults.{are_any, fails, AreFaultless, AreFaultsOf}
use Rattle.lint_program.specs.Notes.{is_apex_soa, missing_soa, AreNoted, Mark}
use Rattle.lint_program.specs.{Report.{AreLinted, AreRefused}, declared.{faults.ZoneFaults.ZoneFaults, looks.Reason.Reason}}
use Rattle.lint_program.specs.declared.looks.Reason.TheVariants.{NoSoa, SecondSoa, OtherClass, OtherTtl}
use Rattle.lint_program.proofs.{FaultLemmas.{accepted, refused}, MarkLemmas.{classes_same, in_back, one_soa, ttls_same, HasReason}}

-- ---- A note about a fault is one for which the records are rejected.

any_fails : (faults : ZoneFaults) (reason : Reason) → fails faults reason ≡ true → are_any faults ≡ true
any_fails faults reason e = grind (arith, common_steps)

pub failing_refused : (records : List RawRecord) (apex : Name) (faults : ZoneFaults) (reason : Reason) → AreFaultsOf records apex faults
    → fails faults reason ≡ true → AreRefused records apex
failing_refused records apex faults reason h e = refused records apex faults h (any_fails faults reason e)

-- ---- Data of type SOA that a line spells have a MINIMUM.

fits : (bits : ℕ) (text : Octets) (n : ℕ) → IsNumber bits text n → n < 2 ^ bits
fits bits text n t = subst (λ m. m < 2 ^ bits) (sym t.value) t.fits

formless : (rtype : ℕ) → kind_of rtype ≡ None → rtype ≡ rtypes.soa → ⊥
formless rtype none same = let e = subst (λ t. kind_of t ≡ None) same none in absurd (cc)

minimum_spelled : (rtype : ℕ) (old : Tokens) (d : ZoneRecordData Octets Name) → RdataText (λ o. o) (λ n. n) rtype old d [] → rtype_of d ≡ rtypes.soa
    → (m : ℕ) × (raw_minimum (raw_data (λ o. o) (λ n. n) d) ≡ Some m)
minimum_spelled rtype old (Soa d) (own other text) e = (d.minimum, minimum_last _ (fits 32 text.1.2.2.2.token d.minimum text.1.2.2.2.holds))
minimum_spelled rtype old (Soa d) (generic wire text are end) e = (d.minimum, minimum_last _ are.1.fits.1.1.1)
minimum_spelled rtype old (Unknown d) (own other text) e = absurd text.1
minimum_spelled rtype old (Unknown d) (generic wire text are end) e = absurd (formless d.rtype (subst (λ t. kind_of t ≡ None) are.0 are.1.0) e)
minimum_spelled rtype old _ text e = absurd (omega arith)

minimum_read : (line : Octets) (r : RawRecord) → IsLineRecord line r → r.«data».rtype ≡ rtypes.soa → (m : ℕ) × (raw_minimum r.«data» ≡ Some m)
minimum_read line r is soa =
    let t = is.spelled in
    let same = ap (λ (q : RawRecord). q.«data») t.raw in
    let m = minimum_spelled _ _ t.spelled.«data» t.are.body.spelled (ap (λ d. d.rtype) same ∙ soa) in
    (m.0, ap raw_minimum (sym same) ∙ m.1)

line_of : (n : ℕ) (lines : List Octets) (bad numbers : List ℕ) (records : List RawRecord) → AreLinted n lines bad numbers records
    → (r : RawRecord) → In r records → (line : Octets) × IsLineRecord line r
line_of n [] bad numbers records h r i = absurd (subst (In r) h.2 i)
line_of n (line ∷ more) bad numbers records (inl h) r i = line_of (n + 1) more bad numbers records h.1 r i
line_of n (line ∷ more) bad numbers records (inr (inl h)) r i =
    elim (let i' : In r (h.0 ∷ h.1) = subst (In r) h.2 i in i') [
      | inl e ↦ (line, subst (IsLineRecord line) e h.3)
      | inr k ↦ line_of (n + 1) more bad h.4 h.1 h.6 r k
    ]
line_of n (line ∷ more) bad numbers records (inr (inr h)) r i = line_of (n + 1) more h.0 numbers records h.3 r i

-- ---- Without a note about a fault there is none.

abbrev see : RawRecord → ZoneRecord
see = as_zone_record (λ n. n) (λ d. d.rtype) raw_minimum

-- ---- TTLs

abbrev AreEven : List RawRecord → Type 0
AreEven given =
    (x y : RawRecord) → In x given → In y given → x.«data».rtype ≢ rtypes.rrsig
    → (same_name x.owner y.owner && nat_eq x.«data».rtype y.«data».rtype) ≡ true → y.«data».rtype ≢ rtypes.rrsig → x.ttl ≡ y.ttl

clash_of : (given : List RawRecord) → AreEven given → (n : Name) (x y : RawRecord) → In x given → In y given → same_name x.owner n ≡ true
    → same_name y.owner n ≡ true → clashes (see x) (see y) ≡ true → ⊥
clash_of given even n x y i j p q h =
    let parts = and_parts (nat_eq x.«data».rtype y.«data».rtype && not (nat_eq x.«data».rtype rtypes.rrsig)) (not (nat_eq x.ttl y.ttl)) h in
    let types = and_parts (nat_eq x.«data».rtype y.«data».rtype) (not (nat_eq x.«data».rtype rtypes.rrsig)) parts.0 in
    let other = eqb-false x.«data».rtype rtypes.rrsig (not-true _ types.1) in
    let one = eqb-true x.«data».rtype y.«data».rtype types.0 in
    let owners = same_itself x.owner y.owner (one_lowered x.owner n p ∙ sym (one_lowered y.owner n q)) in
    eqb-false x.ttl y.ttl (not-true _ parts.1)
    (even x y i j other (λ k. owners k && types.0 k) (λ e. other (one ∙ e)))

no_clash : (given : List RawRecord) → AreEven given → (n : Name) → has_clash (records_of (zone_of_raw given) n) ≡ true → ⊥
no_clash given even n h =
    let rs = records_of (zone_of_raw given) n in
    let p = any_in (λ r. list_any (clashes r) rs) rs h in
    let q = any_in (clashes p.0) rs p.2 in
    let i = in_filter (λ r. same_name r.owner n) (zone_of_raw given) p.0 p.1 in
    let j = in_filter (λ r. same_name r.owner n) (zone_of_raw given) q.0 q.1 in
    let x = from_map see given p.0 i.0 in
    let y = from_map see given q.0 j.0 in
    clash_of given even n x.0 y.0 x.1 y.1 (subst (λ z. same_name z.owner n ≡ true) (sym x.2) i.1) (subst (λ z. same_name z.owner n ≡ true) (sym y.2) j.1)
    (subst (λ z. clashes z (see y.0) ≡ true) (sym x.2) (subst (λ z. clashes p.0 z ≡ true) (sym y.2) q.2))

even_zone : (given sorted : List RawRecord) → SortsRaw given sorted → AreEven given → (names : List Name) → has_unequal_ttls (zone_of_raw sorted) names ≡ true
    → ⊥
even_zone given sorted sorts even names h =
    let n = any_in (λ n. has_clash (records_of (zone_of_raw sorted) n)) names h in
    no_clash given even n.0 (clash_among raw_view given sorted sorts n.0 n.2)

-- ---- SOA records

abbrev R : RawRecord → RawRecord → Ordering
R = record_cmp (λ n. n) (λ d. d.rtype) raw_cmp

R_total : IsTotalOrder R
R_total = record_cmp_total (λ n. n) (λ d. d.rtype) raw_cmp raw_cmp_total

none_pass : (a : Name) (xs : List RawRecord) → ((y : RawRecord) → In y xs → is_apex_soa a y ≡ true → ⊥) → filter (is_soa a) (map see xs) ≡ []
none_pass a [] h = refl
none_pass a (x ∷ xs) h =
    elim (cases_Bool (is_apex_soa a x)) [
      | inl e ↦ absurd (h x (inl refl) e)
      | inr e ↦ ap (λ b. cond b (see x ∷ filter (is_soa a) (map see xs)) (filter (is_soa a) (map see xs))) e ∙ none_pass a xs (λ y i. h y (inr i))
    ]

only_pass : (a : Name) (r : RawRecord) (xs : List RawRecord) → IsStrictlySortedBy R xs
    → ((x : RawRecord) → In x xs → is_apex_soa a x ≡ true → x ≡ r) → list_any (is_soa a) (map see xs) ≡ true
    → filter (is_soa a) (map see xs) ≡ see r ∷ []
unfolding IsStrictlySortedBy
only_pass a r [] up only h = absurd (false≢true h)
only_pass a r (x ∷ xs) up only h =
    elim (cases_Bool (is_apex_soa a x)) [
      | inl e ↦
          let is = only x (inl refl) e in
          let less = λ (y : RawRecord) (i : In y xs) (f : is_apex_soa a y ≡ true).
          let l : R x y ≡ Less = all_in (λ z. R x z ≡ Less) xs y up.0 i in
          let same : R x y ≡ Equal = ap (R x) (only y (inr i) f ∙ sym is) ∙ tied_itself R_total x in
          let no : Less ≡ Equal = sym l ∙ same in
          let none : ⊥ = cc in
          none in
          ap (λ b. cond b (see x ∷ filter (is_soa a) (map see xs)) (filter (is_soa a) (map see xs))) e
          ∙ (λ k. see (is k) ∷ none_pass a xs less k)
      | inr e ↦
          ap (λ b. cond b (see x ∷ filter (is_soa a) (map see xs)) (filter (is_soa a) (map see xs))) e
          ∙ only_pass a r xs up.1 (λ y i. only y (inr i)) (sym (ap (λ b. b || list_any (is_soa a) (map see xs)) e) ∙ h)
    ]

module _ (given sorted : List RawRecord) (a : Name) (sorts : SortsRaw given sorted) where
  among : (x : RawRecord) → In x sorted → In x given
  among x i = contains_in given x (all_in (Contains given) sorted x (recursion_from_All (Contains given) sorted sorts.set.among) i)

  soa_there : (r : RawRecord) → In r given → is_apex_soa a r ≡ true → list_any (is_soa a) (zone_of_raw sorted) ≡ true
  soa_there r i is =
      let typed : has_type (records_of (zone_of_raw given) a) rtypes.soa ≡ true =
      in_any (λ z. nat_eq z.rtype rtypes.soa) _ (see r)
      (in_filtered (λ z. same_name z.owner a) (zone_of_raw given) (see r) (in_map see given r i) (and_parts _ _ is).1) (and_parts _ _ is).0 in
      let f = any_in (λ z. nat_eq z.rtype rtypes.soa) (records_of (zone_of_raw sorted) a) (type_kept raw_view given sorted sorts a rtypes.soa ∙ typed) in
      let j = in_filter (λ z. same_name z.owner a) (zone_of_raw sorted) f.0 f.1 in
      in_any (is_soa a) (zone_of_raw sorted) f.0 j.0 (λ k. f.2 k && j.1 k)

  soa_kept : (r : RawRecord) → In r given → is_apex_soa a r ≡ true → ((x : RawRecord) → In x given → is_apex_soa a x ≡ true → x ≡ r)
      → (m : ℕ) → raw_minimum r.«data» ≡ Some m → soa_of (zone_of_raw sorted) a ≡ None → ⊥
  soa_kept r i is only m known none =
      let one = only_pass a r sorted sorts.set.sorted (λ x j. only x (among x j)) (soa_there r i is) in
      let some : soa_of (zone_of_raw sorted) a ≡ numbers_of (see r) (Some m) = ap of_only one ∙ ap (numbers_of (see r)) known in
      let no : Some _ ≡ None = sym some ∙ none in
      cc

-- ---- Without a note about a fault there is none.

module _ (a : Name) (lines : List Octets) (records : List RawRecord) (numbers : List ℕ) (marks : List Mark) (linted : AreLinted 1 lines [] numbers records)
    (noted : AreNoted true a records numbers marks) where
  abbrev front : List Mark
  front = (noted.soas ++ missing_soa true a records) ++ noted.classes

  -- a note before the last three looks is one of all
  of_front : (m : Mark) → In m (front ++ noted.ttls) → In m marks
  of_front m i = subst (In m) (sym noted.are) (in_front _ _ m (in_front _ _ m (in_front _ _ m i)))

  of_soas : (m : Mark) → In m noted.soas → In m marks
  of_soas m i = of_front m (in_front _ _ m (in_front _ _ m (in_front _ _ m i)))

  of_missing : (m : Mark) → In m (missing_soa true a records) → In m marks
  of_missing m i = of_front m (in_front _ _ m (in_front _ _ m (in_back noted.soas _ m i)))

  of_classes : (m : Mark) → In m noted.classes → In m marks
  of_classes m i = of_front m (in_front _ _ m (in_back (noted.soas ++ missing_soa true a records) _ m i))

  of_ttls : (m : Mark) → In m noted.ttls → In m marks
  of_ttls m i = of_front m (in_back front _ m i)

  module _ (faults : ZoneFaults) (quiet : AllByRecursion (λ m. fails faults m.reason ≡ false) marks) where
    unmarked : (reason : Reason) → fails faults reason ≡ true → HasReason marks reason → ⊥
    unmarked reason e h =
        false≢true (sym (all_in (λ m. fails faults m.reason ≡ false) marks h.0 quiet h.1) ∙ ap (fails faults) h.2 ∙ e)

    one_class : faults.classes ≡ true → IsOneClass records
    one_class e =
        all_pairs (λ r t. r.class ≡ t.class) (λ r. refl) (λ r t f. sym f) records
        (classes_same a records numbers noted.classes noted.classes_found (λ h. unmarked OtherClass e (h.0, of_classes h.0 h.1, h.2)))

    even : faults.ttls ≡ true → AreEven records
    even e = ttls_same a records numbers noted.ttls noted.ttls_found (λ h. unmarked OtherTtl e (h.0, of_ttls h.0 h.1, h.2))

    no_soa_fault : faults.soa ≡ true → (sorted : List RawRecord) → SortsRaw records sorted → soa_of (zone_of_raw sorted) a ≡ None → ⊥
    no_soa_fault e sorted sorts none =
        elim (cases_Bool (list_any (is_apex_soa a) records)) [
          | inl f ↦
              let r = any_in (is_apex_soa a) records f in
              let line = line_of 1 lines [] numbers records linted r.0 r.1 in
              let m = minimum_read line.0 r.0 line.1 (eqb-true _ rtypes.soa (and_parts _ _ r.2).0) in
              soa_kept records sorted a sorts r.0 r.1 r.2
              (λ x i p. one_soa a records numbers noted.soas noted.soas_found (λ h. unmarked SecondSoa e (h.0, of_soas h.0 h.1, h.2)) x r.0 i r.1 p r.2)
              m.0 m.1 none
          | inr f ↦
              let mark : Mark = record { reason = NoSoa; place = None } in
              unmarked NoSoa e (mark, of_missing mark (subst (λ b. In mark (cond (true && not b) (mark ∷ []) [])) (sym f) (inl refl)), refl)
        ]

    pub all_told : AreFaultsOf records a faults → AreFaultless records a
    all_told (inl m) = absurd (m.0 (one_class (ap (λ (f : ZoneFaults). f.classes) m.1)))
    all_told (inr h) =
        (accepted records a faults (inr h)
        (by faults.soa faults.ttls refl refl)).faultless
      where
        by : (s t : Bool) → faults.soa ≡ s → faults.ttls ≡ t → are_any faults ≡ false
        by true t e f = absurd (no_soa_fault e h.sorted h.sorts (h.zone.soa e))
        by false true e f = absurd (even_zone records h.sorted h.sorts (even f) _ (sym h.zone.ttls ∙ f))
        by false false e f = grind (arith, common_steps, h.zone.classes)
