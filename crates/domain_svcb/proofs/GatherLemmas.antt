-- Parameters that texts add, and their octets on the wire.
use Rattle.std.proofs.Common.{◌≡◌, ℕ, zero, suc, ◌+◌, ◌-◌, ◌*◌, ◌/◌, ◌%◌, ◌<◌, ◌≤◌, List, [], ◌∷◌, ◌++◌, length, map, refl, sym, ap, ◌∙◌, subst}
use Rattle.std.proofs.Common.{arith, true, false}
use Rattle.std.proofs.Common.{length-append, append-nil, inl, inr, Bool, Option, Some, None, rules}
use Rattle.std.proofs.lemmas.{Grind.common_steps, Bool.{cases_Bool, Decides.nat_tests}, List.length-replicate}
use Rattle.std.specs.{Prelude.{nat_lt, nat_le, nat_eq, ◌&&◌, ◌==◌, if◌then◌else◌}, List.{concat, AllByRecursion}, Cmp.Lexicographic.pointwise}
use Rattle.std.specs.Net.{Grammar.IsColonHex, Addr.octets_of}
use Rattle.domain_base.specs.Numbers.{Named}
use Rattle.domain_svcb.specs.Keys.{ParameterKeyText, KeyName, named, numbered, kind_of_key, key_names, number_of_name}
use Rattle.domain_svcb.specs.Values.{Parameter, has_key, parameter_placed, bare, comma_items, prefixed, ItemTexts, AddressItem, KeyItems}
use Rattle.domain_svcb.specs.Values.{mandatory_octets, KeysText}
use Rattle.domain_svcb.specs.Values.{counted_id, joined_ids, by_step, id_step, ids_from, ValueText, are_rising, are_ids, is_value}
use Rattle.domain_svcb.specs.Parameters.{ParameterText, by_name, by_number, AddsParameter, RefusesParameter, AreGathered, parameter_octets}
use Rattle.domain_svcb.specs.Parameters.{parameters_octets, IsParameter, AreParameters, none, one_more, short_at, key_part, value_part}
use Rattle.domain_svcb.specs.declared.ids.IdStep.{IdStep, TheVariants.{Keep, Escape, End, Wrong}}
use Rattle.domain_svcb.specs.declared.key.ValueKind.{ValueKind, TheVariants.{Keys, Protocols, Nothing, Port, Ipv4List, Base64, Ipv6List, Text}}
use Rattle.domain_svcb.specs.declared.fault.ParameterFault.{ParameterFault}
use Rattle.domain_svcb.specs.declared.fault.ParameterFault.TheVariants.{UnknownKey, NotValue, Repeated, NotConsistent, OutOfMemory}
use Rattle.domain_svcb.proofs.ValueLemmas.{one_parameter}

-- ---- texts with a fault

spelled_key : (text : List ℕ) (p : Parameter) → ParameterText text p → ParameterKeyText (key_part text) p.key
spelled_key text p (by_name key value fits) = named key
spelled_key text p (by_number key value good fits) = numbered key

pub refused_adds_none : (text : List ℕ) (before after : List Parameter) (fault : ParameterFault) → RefusesParameter text before fault
    → (fault ≡ OutOfMemory → ⊥) → AddsParameter text before after → ⊥
refused_adds_none text before after UnknownKey refused real adds = refused adds.parameter.key (spelled_key text adds.parameter adds.spelled)
refused_adds_none text before after (NotValue kind) refused real adds = refused.1 adds.parameter adds.spelled
refused_adds_none text before after Repeated refused real adds =
    let same = ap (λ p. has_key p.key before) (one_parameter text refused.0 adds.parameter refused.1 adds.spelled) in
    let there = refused.2 in
    let once = adds.once in cc
refused_adds_none text before after NotConsistent refused real adds = absurd refused
refused_adds_none text before after OutOfMemory refused real adds = real refl

pub one_after : (text : List ℕ) (before a b : List Parameter) → AddsParameter text before a → AddsParameter text before b → a ≡ b
one_after text before a b is other =
    is.placed_is ∙ ap (λ p. parameter_placed p before) (one_parameter text is.parameter other.parameter is.spelled other.spelled) ∙ sym other.placed_is

pub one_gathered : (texts : List (List ℕ)) (before a b : List Parameter) → AreGathered before texts a → AreGathered before texts b → a ≡ b
one_gathered [] before a b is other = is ∙ sym other
one_gathered (text ∷ texts) before a b is other =
    let same = one_after text before is.0 other.0 is.1 other.1 in
    one_gathered texts other.0 a b (subst (λ n. AreGathered n texts a) same is.2) other.2

-- ---- lists whose keys rise

after_lt : (p q : Parameter) → nat_lt p.key q.key ≡ true → p.key + 1 ≤ q.key
after_lt p q below = grind (arith, nat_tests)

other_key : (p q : Parameter) (ps : List Parameter) → has_key p.key (q ∷ ps) ≡ false → has_key p.key ps ≡ false
other_key p q ps once = grind (arith, common_steps, nat_tests)

after_ne : (p q : Parameter) (ps : List Parameter) → nat_lt p.key q.key ≡ false → has_key p.key (q ∷ ps) ≡ false → q.key + 1 ≤ p.key
after_ne p q ps above once = grind (arith, common_steps, nat_tests)

module _ (G : Parameter → Type 0) where
  -- the keys rise, the first is at least this, and G holds of each parameter
  abbrev pub Rising : ℕ → List Parameter → Type 0
  Rising least [] = Unit {0}
  Rising least (p ∷ ps) = (least ≤ p.key) × G p × Rising (p.key + 1) ps

  pub placed_rising : (least : ℕ) (p : Parameter) (ps : List Parameter) → Rising least ps → least ≤ p.key → G p → has_key p.key ps ≡ false
      → Rising least (parameter_placed p ps)
  placed_rising least p [] rest low good once = (low, good, tt)
  placed_rising least p (q ∷ ps) rest low good once = elim (cases_Bool (nat_lt p.key q.key)) [
    | inl below ↦ rw below (low, good, (after_lt p q below, rest.1, rest.2))
    | inr above ↦ rw above (rest.0, rest.1, placed_rising (q.key + 1) p ps rest.2 (after_ne p q ps above once) good (other_key p q ps once))
  ]

-- ---- the values of mandatory keys

abbrev IsSmall : Parameter → Type 0
IsSmall p = p.key < 65536

small_names : AllByRecursion (λ entry. entry.number < 65536) key_names
small_names = search rules

small_in : (table : List Named) (text : List ℕ) (key : ℕ) → AllByRecursion (λ entry. entry.number < 65536) table
    → number_of_name table text ≡ Some key → key < 65536
small_in [] text key small is = absurd (let e = is in cc)
small_in (entry ∷ table) text key small is = elim (cases_Bool (pointwise nat_eq entry.name text)) [
  | inl here ↦
      let same : ◌≡◌ {A = Option ℕ} (Some entry.number) (Some key) = rw here at is in
      let number_is : entry.number ≡ key = cc in omega (arith, number_is, small.0)
  | inr other ↦ small_in table text key small.1 (rw other at is)
]

named_small : (text : List ℕ) (key : ℕ) → KeyName text key → key < 65536
named_small text key name = small_in key_names text key small_names name

prefixed_some : (c : ℕ) (items : List (List ℕ)) → 0 < length items → 0 < length (prefixed c items)
prefixed_some c [] some = some
prefixed_some c (item ∷ items) some = omega arith

small_key : (text : List ℕ) (key : ℕ) → ParameterKeyText text key → key < 65536
small_key text key (named name) = named_small text key name
small_key text key (numbered number) = number.fits

items_some : (text : List ℕ) → 0 < length (comma_items text)
unfolding comma_items
items_some [] = omega arith
items_some (c ∷ text) = elim (cases_Bool (c == 44)) [
  | inl at ↦ rw at (omega arith)
  | inr other ↦ rw other (prefixed_some c (comma_items text) (items_some text))
]

length-placed : (p : Parameter) (ps : List Parameter) → length (parameter_placed p ps) ≡ suc (length ps)
length-placed p [] = refl
length-placed p (q ∷ ps) = elim (cases_Bool (nat_lt p.key q.key)) [
  | inl below ↦ rw below refl
  | inr above ↦ rw above (ap suc (length-placed p ps))
]

keys_count : (items : List (List ℕ)) (before all : List Parameter) → KeyItems before items all → length all ≡ length before + length items
keys_count [] before all is = omega (arith, ap length is)
keys_count (item ∷ items) before all is =
    omega (arith, keys_count items is.0 all is.2, ap length is.1.placed_is, length-placed (bare is.1.key) before)

keys_rise : (items : List (List ℕ)) (before all : List Parameter) → KeyItems before items all → Rising IsSmall 1 before → Rising IsSmall 1 all
keys_rise [] before all is rest = subst (Rising IsSmall 1) (sym is) rest
keys_rise (item ∷ items) before all is rest =
    let adds = is.1 in
    let next = placed_rising IsSmall 1 (bare adds.key) before rest adds.other (small_key item adds.key adds.spelled) adds.once in
    keys_rise items is.0 all is.2 (subst (Rising IsSmall 1) (sym adds.placed_is) next)

keys_wire : (last : ℕ) (ps : List Parameter) → Rising IsSmall (last + 1) ps → are_rising last (concat (map mandatory_octets ps)) ≡ true
keys_wire last [] rest = refl
keys_wire last (p ∷ ps) rest =
    let key : 256 * (p.key / 256 % 256) + p.key % 256 ≡ p.key = let small = rest.1 in omega arith in
    rw key (let low : nat_lt last p.key ≡ true = (let least = rest.0 in grind (arith, nat_tests)) in rw low (keys_wire p.key ps rest.2))

keys_size : (ps : List Parameter) → length (concat (map mandatory_octets ps)) ≡ 2 * length ps
keys_size [] = refl
keys_size (p ∷ ps) = omega (arith, keys_size ps, length-append (mandatory_octets p) (concat (map mandatory_octets ps)))

keys_good : (text octets : List ℕ) → KeysText text octets → is_value Keys octets ≡ true
keys_good text octets is =
    let rise = keys_wire 0 is.0 (keys_rise (comma_items text) [] is.0 is.1 tt) in
    let some : 0 < length octets = omega (arith, ap length is.2, keys_size is.0, keys_count (comma_items text) [] is.0 is.1, items_some text) in
    let rising : are_rising 0 octets ≡ true = ap (are_rising 0) is.2 ∙ rise in
    rw rising (grind (arith, nat_tests))

-- ---- the values of protocols

ids_over : (id more : List ℕ) (n : ℕ) → length id ≡ n → are_ids n (id ++ more) ≡ are_ids 0 more
ids_over [] more n size = ap (λ m. are_ids m more) (sym size)
ids_over (c ∷ id) more zero size = absurd (omega (arith, size))
ids_over (c ∷ id) more (suc n) size =
    let goes : (suc n == 0) ≡ false = grind (arith, nat_tests) in
    rw goes (ap (λ m. are_ids m (id ++ more)) (let e : suc n - 1 ≡ n = omega arith in e) ∙ ids_over id more n (omega (arith, size)))

counted_good : (id part more : List ℕ) → counted_id id ≡ Some part → (are_ids 0 (part ++ more) ≡ are_ids 0 more) × (0 < length part)
counted_good id part more is = elim (cases_Bool (nat_lt 0 (length id) && nat_le (length id) 255)) [
  | inl fits ↦
      let same : ◌≡◌ {A = Option (List ℕ)} (Some (length id ∷ id)) (Some part) = rw fits at is in
      let part_is : length id ∷ id ≡ part = cc in
      let some : nat_lt 0 (length id) ≡ true = grind (arith, common_steps, nat_tests, fits) in (
        ap (λ p. are_ids 0 (p ++ more)) (sym part_is) ∙ (rw some (ids_over id more (length id) refl)),
        omega (arith, ap length part_is),
      )
  | inr other ↦ absurd (let e : None ≡ Some part = rw other at is in cc)
]

abbrev AreGoodIds : List ℕ → Type 0
AreGoodIds ids = (0 < length ids) × (are_ids 0 ids ≡ true)

join_good : (p o : Option (List ℕ)) (ids : List ℕ) → joined_ids p o ≡ Some ids
    → (part : List ℕ) × (rest : List ℕ) × (p ≡ Some part) × (o ≡ Some rest) × (ids ≡ part ++ rest)
join_good None o ids is = absurd (let e = is in cc)
join_good (Some part) None ids is = absurd (let e = is in cc)
join_good (Some part) (Some rest) ids is = (part, rest, refl, refl, let e : ids ≡ part ++ rest = cc in e)

end_good : (id : List ℕ) (taken : Bool) (ids : List ℕ) → (if taken then None else counted_id id) ≡ Some ids → AreGoodIds ids
end_good id true ids is = absurd (let e = is in cc)
end_good id false ids is =
    let good = counted_good id ids [] is in (good.1, ap (are_ids 0) (sym (append-nil ids)) ∙ good.0)

comma_good : (id string ids : List ℕ) → ((rest : List ℕ) → ids_from [] false string ≡ Some rest → AreGoodIds rest)
    → joined_ids (counted_id id) (ids_from [] false string) ≡ Some ids → AreGoodIds ids
comma_good id string ids more is =
    let found = join_good (counted_id id) (ids_from [] false string) ids is in
    let good = counted_good id found.0 found.1 found.2 in
    let rest = more found.1 found.3 in (
      omega (arith, ap length found.4, length-append found.0 found.1, good.1),
      ap (are_ids 0) found.4 ∙ good.0 ∙ rest.1,
    )

step_good : (id : List ℕ) (c : ℕ) (string ids : List ℕ) → ((i : List ℕ) (t : Bool) (w : List ℕ) → ids_from i t string ≡ Some w → AreGoodIds w)
    → (s : IdStep)
    → by_step s (ids_from (id ++ c ∷ []) false string) (ids_from id true string) (joined_ids (counted_id id) (ids_from [] false string)) None ≡ Some ids
    → AreGoodIds ids
step_good id c string ids more Keep is = more (id ++ c ∷ []) false ids is
step_good id c string ids more Escape is = more id true ids is
step_good id c string ids more End is = comma_good id string ids (more [] false) is
step_good id c string ids more Wrong is = absurd (let e = is in cc)

ids_good : (string id : List ℕ) (taken : Bool) (ids : List ℕ) → ids_from id taken string ≡ Some ids → AreGoodIds ids
unfolding ids_from
ids_good [] id taken ids is = end_good id taken ids is
ids_good (c ∷ string) id taken ids is = step_good id c string ids (ids_good string) (id_step taken c) is

-- ---- the values of addresses

items_size : (P : List ℕ → List ℕ → Type 0) (size : ℕ) → ((text octets : List ℕ) → P text octets → length octets ≡ size)
    → (items : List (List ℕ)) (octets : List ℕ) → ItemTexts P items octets → length octets ≡ length items * size
items_size P size each [] octets is = let none_long : length octets ≡ 0 = ap length is in none_long ∙ (let e : 0 ≡ 0 * size = omega arith in e)
items_size P size each (item ∷ items) octets is =
    let head = each item is.0 is.3 in
    let more = items_size P size each items is.1 is.4 in
    let sum : length octets ≡ size + length items * size = ap length is.2 ∙ length-append is.0 is.1 ∙ ap (λ n. n + length is.1) head ∙
    ap (λ n. size + n) more in
    sum ∙ (let e : size + length items * size ≡ suc (length items) * size = grind arith in e)

pub length-octets_of : (segments : List ℕ) → length (octets_of segments) ≡ 2 * length segments
length-octets_of [] = refl
length-octets_of (s ∷ segments) = grind (arith, common_steps, (length-octets_of segments))

pub segments_eight : (text segments : List ℕ) → IsColonHex text segments → length segments ≡ 8
segments_eight text segments (inl whole) = whole.1
segments_eight text segments (inr elided) =
    let gap = 8 - length elided.head - length elided.tail in
    let size = ap length elided.value ∙ length-append (elided.head ++ _) elided.tail ∙ ap (λ n. n + length elided.tail) (length-append elided.head _) in
    omega (arith, size, elided.room, length-replicate {A = ℕ} gap 0)

short_size : (text octets : List ℕ) → AddressItem false text octets → length octets ≡ 4
short_size text octets is = ap length is.value

long_size : (text octets : List ℕ) → AddressItem true text octets → length octets ≡ 16
long_size text octets is =
    ap length is.2 ∙ length-octets_of is.0.segments ∙ ap (λ n. 2 * n) (segments_eight text is.0.segments is.1)

shorts_good : (count n : ℕ) → 0 < count → n ≡ count * 4 → (nat_lt 0 n && n % 4 == 0) ≡ true
shorts_good count n some is = grind (arith, nat_tests)

longs_good : (count n : ℕ) → 0 < count → n ≡ count * 16 → (nat_lt 0 n && n % 16 == 0) ≡ true
longs_good count n some is = grind (arith, nat_tests)

-- ---- values

value_good : (kind : ValueKind) (text octets : List ℕ) → ValueText kind text octets → is_value kind octets ≡ true
value_good Keys text octets is = keys_good text octets is
value_good Protocols text octets is =
    let good = ids_good is.0 [] false octets is.2 in
    let rest = good.1 in
    let some : nat_lt 0 (length octets) ≡ true = (let more = good.0 in grind (arith, nat_tests)) in rw some rest
value_good Nothing text octets is = ap (λ o. length o == 0) is.1
value_good Port text octets is = ap (λ o. length o == 2) is.2
value_good Ipv4List text octets is =
    shorts_good (length (comma_items text)) (length octets) (items_some text) (items_size (AddressItem false) 4 short_size (comma_items text) octets is)
value_good Base64 text octets is = refl
value_good Ipv6List text octets is =
    longs_good (length (comma_items text)) (length octets) (items_some text) (items_size (AddressItem true) 16 long_size (comma_items text) octets is)
value_good Text text octets is = refl

-- ---- parameters on the wire

abbrev pub IsGood : Parameter → Type 0
IsGood p = (p.key < 65536) × (length p.value < 65536) × (is_value (kind_of_key p.key) p.value ≡ true)

spelled_good : (text : List ℕ) (p : Parameter) → ParameterText text p → IsGood p
spelled_good text p (by_name key value fits) =
    (small_key (key_part text) p.key (named key), fits, value_good (kind_of_key p.key) (value_part text) p.value value)
spelled_good text p (by_number key value good fits) = (small_key (key_part text) p.key (numbered key), fits, good)

gathered_rise : (texts : List (List ℕ)) (before all : List Parameter) → AreGathered before texts all → Rising IsGood 0 before → Rising IsGood 0 all
gathered_rise [] before all is rest = subst (Rising IsGood 0) (sym is) rest
gathered_rise (text ∷ texts) before all is rest =
    let adds = is.1 in
    let next = placed_rising IsGood 0 adds.parameter before rest (omega arith) (spelled_good text adds.parameter adds.spelled) adds.once in
    gathered_rise texts is.0 all is.2 (subst (Rising IsGood 0) (sym adds.placed_is) next)

short_is : (n : ℕ) → n < 65536 → 256 * (n / 256 % 256) + n % 256 ≡ n
short_is n small = omega arith

part_good : (p : Parameter) → IsGood p → IsParameter (parameter_octets p)
part_good p good = record {
  size = (let e : suc (suc (suc (suc (length p.value)))) ≡ 4 + length p.value = omega arith in e) ∙ ap (λ n. 4 + n) (sym (short_is (length p.value) good.1));
  value = ap (λ k. is_value (kind_of_key k) p.value) (short_is p.key good.0) ∙ good.2;
}

pub wire_good : (least : ℕ) (ps : List Parameter) → Rising IsGood least ps → AreParameters least (parameters_octets ps)
wire_good least [] rest = none least
wire_good least (p ∷ ps) rest =
    let key : short_at 0 (parameter_octets p) ≡ p.key = short_is p.key rest.1.0 in
    one_more least (parameters_octets (p ∷ ps)) (parameter_octets p) (parameters_octets ps) refl (part_good p rest.1)
    (subst (λ k. least ≤ k) (sym key) rest.0) (subst (λ k. AreParameters (k + 1) (parameters_octets ps)) (sym key) (wire_good (p.key + 1) ps rest.2))

pub gathered_are : (texts : List (List ℕ)) (all : List Parameter) → AreGathered [] texts all → AreParameters 0 (parameters_octets all)
gathered_are texts all is = wire_good 0 all (gathered_rise texts [] all is tt)
