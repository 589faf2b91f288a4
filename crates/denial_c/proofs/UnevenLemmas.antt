-- Records of one owner and type that differ in TTL.
use Rattle.std.proofs.{lemmas.Grind.common_steps, Common.{◌≡◌, ℕ, ◌-◌, true, false, List, [], ◌∷◌, ◌++◌, map, length, refl, sym, ap, ◌∙◌, subst, arith, nat_eq}}
use Rattle.std.proofs.{Common.{append_assoc, append-nil, length-append, is_some, Some, None, Option}, lemmas.Bool.{eqb-false, eqb-true, false≢true, not-false}}
use Rattle.std.{proofs.lemmas.{Bool.not-true, List.Folds.list_any-append}, specs.{Prelude.{Contains, filter}, List.{AllByRecursion, flat_map, list_any}}}
use Rattle.domain_names.specs.Name.{Name}
use Rattle.domain_any_order.{specs.{AnyOrder.Sorts, RawRecords.raw_view}, proofs.AmongLemmas.{contains_in, in_contains}}
use Rattle.domain_borrowed.specs.Data.{raw_minimum, RawRecord, zone_of_raw, raw_record_octets, IsRecord}
use Rattle.domain_zone.specs.Zone.{OwnerRecords, owner_at, as_zone_record, ZoneRecord, clashes, has_clash, has_unequal_ttls, records_of, IsFirstClash}
use Rattle.domain_zone.proofs.{GivenLemmas.{all_known, name_of, names_back}, WalkLemmas.{any_two, all_both, any_none, weaker}, PairLemmas.{In, all_in}}
use Rattle.domain_zone.proofs.PairLemmas.{all_from_in, in_filter, in_filtered, in_map, from_map}
use Rattle.denial_c.{specs.Chains.{EncodeRecords, is_in_set, is_other, IsFirstUneven, IsUnevenAt}, proofs.AmongLemmas.{all_read, before_of_class, past_more}}
use Rattle.denial_c.proofs.AmongLemmas.{rest_given, IsPast}

abbrev pub see : RawRecord → ZoneRecord
see = as_zone_record (λ n. n) (λ d. d.rtype) raw_minimum

-- ---- owners

-- these owners and those that are left are all, and none of these has unequal TTLs
pub record IsWalked (L : List ZoneRecord) (a : Name) (all : List Name) (left : List OwnerRecords) : Type 0 where
  pub names : List Name
  pub known : AllByRecursion (λ o. o ≡ owner_at L a o.name) left
  pub are : all ≡ names ++ map name_of left
  pub even : has_unequal_ttls L names ≡ false

module _ {L : List ZoneRecord} {a : Name} {all : List Name} where
  pub walked_start : {left : List OwnerRecords} → left ≡ map (owner_at L a) all → IsWalked L a all left
  walked_start whole = grind (arith, common_steps, (all_known L a all), (names_back L a all))

  -- where an owner is next
  module _ {ahead left : List OwnerRecords} {o : OwnerRecords} (s : IsWalked L a all ahead) (next : ahead ≡ o ∷ left) where
    pub walked_known : o ≡ owner_at L a o.name
    walked_known = (subst (AllByRecursion (λ o. o ≡ owner_at L a o.name)) next s.known).0

    pub walked_clash : (t : ℕ) → IsFirstClash o.records t → IsFirstClash (records_of L o.name) t
    walked_clash t h = subst (λ p. IsFirstClash p.records t) walked_known h

    pub walked_even : has_clash o.records ≡ false → IsWalked L a all left
    walked_even even =
        record {
          names = s.names ++ o.name ∷ [];
          known = grind (arith, common_steps);
          are = grind (arith, common_steps, append_assoc);
          even = grind (arith, common_steps, walked_known, list_any-append);
        }

    pub walked_first : IsFirstUneven L all o.name
    walked_first = record { passed = s.names; rest = map name_of left; among = s.are ∙ ap (λ os. s.names ++ map name_of os) next; even = s.even }

  pub walked_all : {left : List OwnerRecords} → IsWalked L a all left → left ≡ [] → has_unequal_ttls L all ≡ false
  walked_all s none = ap (has_unequal_ttls L) (s.are ∙ ap (λ os. s.names ++ map name_of os) none ∙ append-nil s.names) ∙ s.even

-- ---- the records that were given

-- those of the owner and the type, as records of a zone
set_of_raw : (rs : List RawRecord) (n : Name) (t : ℕ) → filter (λ z. nat_eq z.rtype t) (records_of (zone_of_raw rs) n) ≡ zone_of_raw (filter (is_in_set n t) rs)
set_of_raw [] n t = refl
set_of_raw (r ∷ rs) n t = grind (arith, common_steps, (set_of_raw rs n t))

-- those of the sorted set are among those that were given
pub clash_given : (given sorted : List RawRecord) (n : Name) (t : ℕ) → Sorts raw_view given sorted
    → IsFirstClash (records_of (zone_of_raw sorted) n) t → has_clash (zone_of_raw (filter (is_in_set n t) given)) ≡ true
clash_given given sorted n t s h =
    any_two clashes (zone_of_raw (filter (is_in_set n t) sorted)) (zone_of_raw (filter (is_in_set n t) given)) (λ z i.
    let raw = from_map see (filter (is_in_set n t) sorted) z i in
    let of_set = in_filter (is_in_set n t) sorted raw.0 raw.1 in
    let place = in_contains sorted raw.0 of_set.0 in
    let among = contains_in given raw.0 (subst (Contains given) place.2 (s.set.among place.0 raw.0 place.1)) in
    subst (λ y. In y (zone_of_raw (filter (is_in_set n t) given))) raw.2 (in_map see _ raw.0 (in_filtered (is_in_set n t) given raw.0 among of_set.1)))
    (ap has_clash (sym (set_of_raw sorted n t)) ∙ h.clash)

one_is_even : (zs : List ZoneRecord) (w : ℕ) → AllByRecursion (λ z. z.ttl ≡ w) zs → has_clash zs ≡ false
one_is_even zs w h = grind (arith, common_steps, any_none, all_from_in, all_in)

-- ---- going over the octets

-- a record of the owner and the type has the first TTL
abbrev pub HasFirst : Name → ℕ → Option ℕ → RawRecord → Type 0
HasFirst n t first r = is_in_set n t r ≡ true → first ≡ Some r.ttl

-- the records before have it, and where there is one, some are of the owner and the type
pub record IsScanned (octets : List ℕ) (n : Name) (t : ℕ) (left : List ℕ) (first : Option ℕ) : Type 0 where
  pub before : List RawRecord
  pub past : IsPast IsRecord octets left before
  pub same : AllByRecursion (HasFirst n t first) before
  pub some : is_some first ≡ true → list_any (is_in_set n t) before ≡ true

abbrev ttl_or_0 : Option ℕ → ℕ
ttl_or_0 None = 0
ttl_or_0 (Some w) = w

-- so their TTLs are equal
even_given : (given : List RawRecord) (n : Name) (t : ℕ) (first : Option ℕ) → AllByRecursion (HasFirst n t first) given
    → has_clash (zone_of_raw (filter (is_in_set n t) given)) ≡ false
even_given given n t first h =
    one_is_even _ (ttl_or_0 first) (all_from_in _ _ (λ z i.
    let raw = from_map see (filter (is_in_set n t) given) z i in
    let of_set = in_filter (is_in_set n t) given raw.0 raw.1 in
    ap (λ y. y.ttl) (sym raw.2) ∙ sym (ap ttl_or_0 (all_in (HasFirst n t first) given raw.0 h of_set.0 of_set.1))))

not_other : (first : Option ℕ) (w u : ℕ) → is_other first w ≡ false → first ≡ Some u → Some w ≡ Some u
not_other first w u same is = ap (λ v. Some v) (sym (eqb-true u w (not-false (nat_eq u w) (ap (λ o. is_other o w) (sym is) ∙ same))))

module _ {octets left : List ℕ} {n : Name} {t : ℕ} {first : Option ℕ} (s : IsScanned octets n t left first) where
  -- all were read, though some of them clash
  pub scanned_all : {class : ℕ} {given : List RawRecord} → EncodeRecords class octets given
      → has_clash (zone_of_raw (filter (is_in_set n t) given)) ≡ true → left ≡ [] → ⊥
  scanned_all g clash none =
      let read = all_read left s.before _ (rest_given g s.past) none in
      false≢true (sym (even_given _ n t first (subst (AllByRecursion (HasFirst n t first)) read s.same)) ∙ clash)

  module _ (q : RawRecord) (after : List ℕ) (begins : left ≡ raw_record_octets q ++ after) (fits : IsRecord q) where
    pub scanned_other : is_in_set n t q ≡ false → IsScanned octets n t after first
    scanned_other off = record {
      before = s.before ++ q ∷ [];
      past = past_more IsRecord octets left after s.before q s.past begins fits;
      same = grind (arith, common_steps, (all_both (HasFirst n t first) s.before (q ∷ [])));
      some = grind (arith, common_steps, list_any-append, s.some);
    }

    pub scanned_same : is_in_set n t q ≡ true → is_other first q.ttl ≡ false → IsScanned octets n t after (Some q.ttl)
    scanned_same on same = record {
      before = s.before ++ q ∷ [];
      past = past_more IsRecord octets left after s.before q s.past begins fits;
      same = all_both (HasFirst n t (Some q.ttl)) s.before (q ∷ [])
          (weaker (HasFirst n t first) (HasFirst n t (Some q.ttl)) (λ r h on. not_other first q.ttl r.ttl same (h on)) s.before s.same) ((λ _. refl), tt);
      some = grind (arith, common_steps, list_any-append);
    }

    pub scanned_found : (class : ℕ) {given : List RawRecord} → EncodeRecords class octets given → (offset : ℕ) → offset ≡ length octets - length left
        → is_in_set n t q ≡ true → is_other first q.ttl ≡ true → IsUnevenAt class octets n t offset
    scanned_found class g offset at on other = by first refl other
      where
        by : (o : Option ℕ) → first ≡ o → is_other o q.ttl ≡ true → IsUnevenAt class octets n t offset
        by None is other = absurd (false≢true other)
        by (Some w) is other =
            let long = ap length s.past.are ∙ length-append (flat_map raw_record_octets s.before) left in
            record {
              first = q;
              after = after;
              read = record {
                before = s.before;
                are = s.past.are ∙ ap (λ o. flat_map raw_record_octets s.before ++ o) begins;
                whole = before_of_class g s.past;
                far = omega (arith, at, long);
              };
              fits = fits;
              among = on;
              ttl = w;
              other = λ e. eqb-false w q.ttl (not-true (nat_eq w q.ttl) other) (sym e);
              some = s.some (ap is_some is);
              one_ttl = weaker (HasFirst n t first) (λ r. is_in_set n t r ≡ true → r.ttl ≡ w)
                  (λ r h on. let found = h on in cc) s.before s.same;
            }
