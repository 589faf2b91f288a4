-- Hashes of names: as labels, in lists, and in order; and the names of an NSEC3 chain, those that exist over its owners.
use Rattle.domain_base.specs.Types.{ds, ns}
use Rattle.domain_base.specs.Classes.{in_class}
use Rattle.domain_chain_rdata.specs.Rdata.{is_opt_out}
use Rattle.domain_chain_rdata.specs.Text.{nsec3_text}
use Rattle.domain_nsec3.specs.{View.{apex_text, link_text, shared_text, text_before_data}, Chain.HashedLink}
use Rattle.std.{proofs.Common.append_assoc, specs.Prelude.codes}
use Rattle.domain_codecs.{proofs.Base32Lemmas.{are_small, many_digits}, specs.Base32.{base32_from, base32_lower, lower_digit}}
use Rattle.domain_hasher.specs.declared.error.Nsec3HashError.{Nsec3HashError, TheVariants.OutOfMemory}
use Rattle.domain_names.{proofs.WireLemmas.{IsWire-wire_of, labels_of-wire_of, wire_is}, specs.Name.{IsName, Label, Name, before, canonical_cmp, common_labels}}
use Rattle.domain_names.specs.{Name.{is_at_or_below, is_strictly_below, lowered, same_name, wire_of}, Text.{label_text, name_text, octet_text}, Wire.IsWire}
use Rattle.domain_names.specs.Wire.{labels_of}
use Rattle.domain_nsec3.specs.Chain.{ChainConfig, Hash, excludes, hash_fault, hash_name, hashed_owner, is_chain_name, is_empty_in_chain, is_excluded}
use Rattle.domain_nsec3.specs.Chain.{is_original_owner}
use Rattle.domain_nsec3.specs.{Chain.original_owners, Meaning.{CutsEnclose, octets_before}}
use Rattle.domain_nsec3.specs.Steps.{AreFirstHashes, AreHashesOf, HasAlikeNeighbours, IsFirstRefused, IsHashOf}
use Rattle.domain_nsec3.specs.{Steps.{IsHashed, IsListOf, IsPlacedHash, IsRefusal, above_with_more, is_over, name_at}, declared.hash.Hashed.Hashed}
use Rattle.domain_octets.{proofs.{StdLemmas.and_false, WordLemmas.octets_from_type}, specs.Octets.{AreOctets, Octets}}
use Rattle.domain_zone.proofs.NameLemmas.{before_order, below_between, below_from, below_itself, below_longer, below_parent, below_trans, common_shares}
use Rattle.domain_zone.proofs.NameLemmas.{either_way, lowered_below, one_lowered, same_both, same_itself, same_length, same_lowered, strictly_from}
use Rattle.domain_zone.proofs.{PairLemmas.{In, IsAscending, all_from_in, all_in, ascending, le_lt, lt_trans}, WalkLemmas.{after_or, all_both, any_filter}}
use Rattle.domain_zone.proofs.WalkLemmas.{any_in, any_owner, any_weaker, apart_left, apart_right, apex_unoccluded, below_occluder, in_any, owners_are}
use Rattle.domain_zone.{proofs.WalkLemmas.{typed_owns, weaker}, specs.{Covering.matches, Enclosers.{IsClosestEncloser, exists_over, is_empty_nonterminal}}}
use Rattle.domain_zone.specs.Zone.{ZoneRecord, has_type, is_occluded, is_unoccluded, is_zone_cut, occludes, owns, records_of, unoccluded_owners}
use Rattle.std.proofs.Common.{Bool, Fits, IsPermutation, List, None, [], ap, arith, cond, drop, false, get_or, inl, inr, length, map, not, refl, set, subst}
use Rattle.std.proofs.{Common.{sym, take, true, w8, ℕ, ◌&&◌, ◌*◌, ◌++◌, ◌+◌, ◌/◌, ◌<◌, ◌||◌, ◌∙◌, ◌∷◌, ◌≡◌, ◌≤◌, ◌⊎◌}, lemmas.Bool.Decides.nat_tests}
use Rattle.std.proofs.lemmas.{Bool.{and_from, and_parts, cases_lt, false_from_ne_true, false≢true, leb-true, not-true, or_left, or_right}, Grind.common_steps}
use Rattle.std.proofs.lemmas.List.{Elements.{All-map, All-push, All-weaker, recursion_from_All}, Folds.map_fixed, Sorted.{All-permutation, IsPermutation-map}}
use Rattle.std.proofs.lemmas.List.{Sorted.{IsPermutation-refl, IsPermutation-trans}, append-nil, drop_more, get_or-map, get_or_default, get_or_read, length-map}
use Rattle.std.proofs.lemmas.{List.{length_push, map_push, take-append-drop, take_more}, Map.Keys.sorted_from_all_adjacent, Str.Ascii.IsAscii-from_all}
use Rattle.std.specs.{Char.to_ascii_lowercase, Cmp.Lexicographic.{nat_list_cmp_total, slice_cmp}, FinMap.{nat_cmp-IsAntisymmetric, slice_cmp-IsAntisymmetric}}
use Rattle.std.specs.{List.{AllByRecursion, Sorted.{IsSortedByKey, IsStrictlySortedBy}, list_any}, Ordering.{is_lt, nat_cmp}, Prelude.{All, Ok, filter}}
use Rattle.std.specs.{Prelude.{if◌then◌else◌, nat_lt}, Str.IsAscii, declared.cmp.Ordering.{Ordering, TheVariants.Less}}

-- ---- The text of a hash as a label.

-- how many digits a hash has
pub text_length : (h : List ℕ) → length (base32_lower h) ≡ (8 * length h + 4) / 5
text_length h = length-map (base32_from 1 0 h) lower_digit ∙ many_digits h

-- what holds of each digit
each_digit : (P : ℕ → Type 0) → ((d : ℕ) → d < 32 → P (lower_digit d)) → (h : List ℕ) → AreOctets h → All P (base32_lower h)
each_digit P f h all = All-map P lower_digit (base32_from 1 0 h) (All-weaker (λ d. d < 32) (λ d. P (lower_digit d)) f (base32_from 1 0 h) (are_small h all))

digit_ascii : (d : ℕ) → d < 32 → lower_digit d < 128
digit_ascii d b = elim (nat_lt d 10) as (λ t. (if t then 48 + d else 87 + d) < 128) [ true ↦ omega arith | false ↦ omega arith ]

pub ascii_text : (h : List ℕ) → AreOctets h → IsAscii (base32_lower h)
ascii_text h all = IsAscii-from_all (base32_lower h) (each_digit (λ o. o < 128) digit_ascii h all)

pub text_octets : (h : List ℕ) → AreOctets h → All (λ o. o < 256) (base32_lower h)
text_octets = each_digit (λ o. o < 256) (λ d b. let small = digit_ascii d b in omega arith)

digit_lower : (d : ℕ) → d < 32 → to_ascii_lowercase (lower_digit d) ≡ lower_digit d
digit_lower d b = grind (arith, common_steps)

pub lower_text : (h : List ℕ) → AreOctets h → map to_ascii_lowercase (base32_lower h) ≡ base32_lower h
lower_text h all = map_fixed to_ascii_lowercase (base32_lower h) (each_digit (λ o. to_ascii_lowercase o ≡ o) digit_lower h all)

-- ---- the text of a hash within that of a name

digits_text : (ds : List ℕ) → AllByRecursion (λ d. d < 32) ds → label_text (map lower_digit ds) ≡ map lower_digit ds
unfolding octet_text
digits_text [] all = refl
digits_text (d ∷ ds) all = grind (arith, common_steps, (digits_text ds all.1))

hash_text : (h : List ℕ) → AreOctets h → label_text (base32_lower h) ≡ base32_lower h
hash_text h all = digits_text (base32_from 1 0 h) (recursion_from_All (λ d. d < 32) (base32_from 1 0 h) (are_small h all))

-- the text of the owner of a record, with its last dot: right below the root, and elsewhere
pub owner_at_root : (a : Name) (h : List ℕ) → AreOctets h → a ≡ [] → base32_lower h ++ 46 ∷ [] ≡ name_text (hashed_owner a h) ++ 46 ∷ []
owner_at_root a h all root = grind (arith, common_steps, hash_text)

pub owner_below : (a : Name) (h : List ℕ) → AreOctets h → (a ≡ [] → ⊥)
    → base32_lower h ++ 46 ∷ (name_text a ++ 46 ∷ []) ≡ name_text (hashed_owner a h) ++ 46 ∷ []
owner_below [] h all some = absurd (some refl)
owner_below (l ∷ ls) h all some = grind (arith, common_steps, hash_text)

-- ---- the text of a record

pub hash_and_apex : (a : Name) (h : List ℕ) → AreOctets h → base32_lower h ++ apex_text a ≡ name_text (hashed_owner a h) ++ codes "."
hash_and_apex [] h all = owner_at_root [] h all refl
hash_and_apex (l ∷ ls) h all = owner_below (l ∷ ls) h all (λ e. absurd (cc e))

-- the owner's text is that of the hash, and what all records share
pub shared_before_data : (a : Name) (h : List ℕ) (ttl : ℕ) → AreOctets h
    → text_before_data (hashed_owner a h) ttl ≡ base32_lower h ++ shared_text a ttl
shared_before_data a h ttl all = grind (arith, common_steps, append_assoc, (hash_and_apex a h all))

pub link_spelled : (k : HashedLink) → k.class ≡ in_class
    → link_text k ≡ text_before_data k.owner k.ttl
    ++ nsec3_text ((((k.parameters.algorithm, (k.flags, k.parameters.iterations)), k.parameters.salt), k.next), k.bits)
link_spelled k class = grind (arith, common_steps, append_assoc)

-- ---- when a hash is of use

pub owner_length : (a : Name) (h above : List ℕ) → IsWire above → labels_of above ≡ a
    → length (wire_of (hashed_owner a h)) ≡ (8 * length h + 4) / 5 + 1 + length above
owner_length a h above w l = grind (arith, common_steps, text_length)

module _ (a : Name) (h : List ℕ) where
  pub sound_some : hash_fault a (Ok h) ≡ None → 0 < length h
  sound_some e = grind (arith, common_steps)

  pub sound_short : hash_fault a (Ok h) ≡ None → length h ≤ 39
  sound_short e = grind (arith, common_steps)

  pub sound_fits : hash_fault a (Ok h) ≡ None → length (wire_of (hashed_owner a h)) ≤ 255
  sound_fits e = grind (arith, common_steps)

-- ---- a hash as a label before a name

-- a label with its length, and a name after it, in a buffer
pub first_set : (xs : List ℕ) (n : ℕ) → 0 < length xs → take 1 (set xs 0 n) ≡ n ∷ []
first_set [] n h = absurd (omega arith)
first_set (x ∷ xs) n h = refl

-- there is room for the owner of a hash of use
pub owner_room : (a : Name) (hash label above : List ℕ) → IsWire above → labels_of above ≡ a → hash_fault a (Ok hash) ≡ None
    → label ≡ base32_lower hash → (0 < length label) × (length label ≤ 63) × (length label + 1 + length above ≤ 255)
owner_room a hash label above w l sound is = grind (arith, common_steps, sound_some, sound_short, sound_fits, owner_length, text_length)

pub record IsOwnerWire (a : Name) (hash wire : List ℕ) : Type 0 where
  pub is_wire : IsWire wire
  pub labels : labels_of wire ≡ hashed_owner a hash

pub owner_made : (a : Name) (hash label above wire : List ℕ) → IsWire above → labels_of above ≡ a → hash_fault a (Ok hash) ≡ None
    → ((i : ℕ) → Fits w8 (get_or hash i 0)) → label ≡ base32_lower hash → wire ≡ length label ∷ (label ++ above)
    → IsOwnerWire a hash wire
owner_made a hash label above wire w l sound octets is made =
    let some = sound_some a hash sound in
    let short = sound_short a hash sound in
    let digits = text_length hash in
    let long : wire_of (labels_of above) ≡ above = wire_is above w in
    let fits : length (wire_of (base32_lower hash ∷ labels_of above)) ≤ 255 =
    subst (λ (x : Name). length (wire_of (base32_lower hash ∷ x)) ≤ 255) (sym l) (sound_fits a hash sound) in
    let valid : IsName (base32_lower hash ∷ labels_of above) = record {
      of_labels = (record { not_empty = omega arith; fits = omega arith; octets = text_octets hash (octets_from_type hash octets) }, w.valid.of_labels);
      fits = fits;
    } in
    let same : wire ≡ wire_of (base32_lower hash ∷ labels_of above) = made ∙ (λ i. length (is i) ∷ (is i ++ sym long i)) in
    record {
      is_wire = subst IsWire (sym same) (IsWire-wire_of _ valid);
      labels = ap labels_of same ∙ labels_of-wire_of _ valid ∙ ap (λ x. base32_lower hash ∷ x) l;
    }

-- ---- Lists of hashed names: how they are ordered and built.

-- octets that the order can't tell apart are the same
pub tied_octets : (u v : Octets) → matches octets_before u v ≡ true → u ≡ v
tied_octets u v m = grind (arith, common_steps, slice_cmp-IsAntisymmetric, nat_cmp-IsAntisymmetric, (nat_list_cmp_total.antisymm v u))

abbrev pub octets_of : List Hashed → List Octets
octets_of = map (λ h. h.hash)

abbrev pub is_less : Hashed → Hashed → Bool
is_less g h = is_lt (slice_cmp nat_cmp g.hash h.hash)

-- hashes of which each is less than the next one ascend
pub keys_ascend : (hashed : List Hashed) → ((k : ℕ) (d : Hashed) → k + 1 < length hashed → true ≡ is_less (get_or hashed k d) (get_or hashed (k + 1) d))
    → IsStrictlySortedBy (slice_cmp nat_cmp) (octets_of hashed)
keys_ascend [] up = sorted_from_all_adjacent nat_list_cmp_total [] [] (λ k l. absurd (omega arith))
keys_ascend (h ∷ hs) up = sorted_from_all_adjacent nat_list_cmp_total (octets_of (h ∷ hs)) [] (λ k l.
    let within : k + 1 < length (h ∷ hs) = omega (arith, l, length-map (h ∷ hs) (λ (h : Hashed). h.hash)) in
    rw (get_or-map (λ (h : Hashed). h.hash) (h ∷ hs) k h [] (omega arith), get_or-map (λ (h : Hashed). h.hash) (h ∷ hs) (k + 1) h [] within)
    (less _ (up k h within)))
  where
    less : (r : Ordering) → true ≡ is_lt r → r ≡ Less
    less r e = grind (arith, common_steps)

-- of hashes in order, neighbours of which the first is not less are alike
pub alike_at : (hashed : List Hashed) → IsSortedByKey (λ h. h.hash) (slice_cmp nat_cmp) hashed → (k : ℕ) → k + 1 < length hashed
    → ((d : Hashed) → false ≡ is_less (get_or hashed k d) (get_or hashed (k + 1) d)) → HasAlikeNeighbours hashed
alike_at [] sorted k within same = absurd (omega arith)
alike_at (h ∷ hs) sorted k within same = record {
  place = k;
  inside = within;
  one = get_or (h ∷ hs) k h;
  other = get_or (h ∷ hs) (k + 1) h;
  first = get_or_default (h ∷ hs) k h _ (omega arith);
  second = get_or_default (h ∷ hs) (k + 1) h _ within;
  alike = tied_octets _ _ (λ i. not (sym (same h) i || sorted k h (omega arith) within i));
}

module _ (a : Name) (hash : Hash) (names : List Name) where
  pub one_hashed : (hashed new : List Hashed) (x : Name) (h : Hashed) → length hashed < length names → x ≡ get_or names (length hashed) x
      → h.place ≡ length hashed → IsHashed a hash x h.hash → new ≡ hashed ++ h ∷ [] → AreFirstHashes a hash names hashed → AreFirstHashes a hash names new
  one_hashed hashed new x h within there placed is pushed so_far =
      let next = take_more names (length hashed) [] within in
      let read = get_or_read names (length hashed) x within there [] in
      let more = length_push hashed h in
      grind (arith, common_steps, map_push, All-push)

  -- a hash that a hasher gave, that is of use, and that is put behind those before it
  pub next_hashed : (hashed new : List Hashed) (x : Name) (octets : Octets) (place : ℕ) (h : Hashed) → place ≡ length hashed → place < length names
      → x ≡ get_or names place x → Ok octets ≡ hash_name hash x → IsPlacedHash a octets place h → new ≡ hashed ++ h ∷ []
      → AreFirstHashes a hash names hashed → (place + 1 ≡ length new) × AreFirstHashes a hash names new
  next_hashed hashed new x octets place h at within there known placed is so_far =
      let is_hashed : IsHashed a hash x h.hash = grind (arith, common_steps) in
      let more = length_push hashed h in (
        grind (arith, common_steps),
        one_hashed hashed new x h (grind (arith, common_steps)) (grind (arith, common_steps)) (grind (arith, common_steps)) is_hashed is so_far,
      )

  pub all_hashed : (hashed : List Hashed) → length names ≤ length hashed → AreFirstHashes a hash names hashed → AreHashesOf a hash names hashed
  all_hashed hashed past h = grind (arith, common_steps, IsPermutation-refl)

  pub moved_hashes : (hashed ordered : List Hashed) → IsPermutation hashed ordered → AreHashesOf a hash names hashed → AreHashesOf a hash names ordered
  moved_hashes hashed ordered moved h = record {
    moved = IsPermutation-trans names (map (name_at names) hashed) (map (name_at names) ordered) h.moved
        (IsPermutation-map (name_at names) hashed ordered moved);
    each = All-permutation (IsHashOf a hash names) hashed ordered moved h.each;
  }

  -- the first name that is refused, after those that were hashed
  pub first_refused : (hashed : List Hashed) (x : Name) (e : Nsec3HashError) → length hashed < length names → x ≡ get_or names (length hashed) x
      → AreFirstHashes a hash names hashed → IsRefusal a (hash_name hash x) e → (e ≡ OutOfMemory) ⊎ IsFirstRefused a hash names e
  first_refused hashed x e within there h (inl m) = inl m
  first_refused hashed x e within there h (inr f) = let n = length hashed in inr (record {
    before = take n names;
    name = x;
    after = drop (n + 1) names;
    are = sym (take-append-drop n names) ∙ ap (λ ns. take n names ++ ns) (drop_more names n x within ∙ ap (λ y. y ∷ drop (n + 1) names) (sym there));
    sound = subst (All (λ y. hash_fault a (hash_name hash y) ≡ None)) h.named (All-map (λ y. hash_fault a (hash_name hash y) ≡ None) (name_at names) hashed
        (All-weaker (IsHashOf a hash names) (λ g. hash_fault a (hash_name hash (name_at names g)) ≡ None)
        (λ g k. ap (hash_fault a) k.is.known ∙ k.is.sound) hashed h.each));
    fault = f;
  })

-- ---- The names of an NSEC3 chain: those that exist over its owners.

-- ---- The names above a name.

-- a name at or below one with no fewer labels is that one
pub at_length : (x e : Name) → is_at_or_below x e ≡ true → length x ≤ length e → lowered x ≡ lowered e
at_length x e h l = one_lowered x e (same_length x e h l)

-- above the first label
pub cons_below : (x : Label) (xs e : Name) → length e ≤ length xs → is_at_or_below (x ∷ xs) e ≡ is_at_or_below xs e
cons_below x xs e l = grind (arith, common_steps, (below_parent x xs))

pub more_none : (n : ℕ) (x : Name) → length x ≤ n + 1 → above_with_more n x ≡ []
more_none n [] h = refl
more_none n (label ∷ x) h = grind (arith, nat_tests)

abbrev pub IsAbove : ℕ → Name → Name → Type 0
IsAbove n o m = (is_at_or_below o m ≡ true) × (length m < length o) × (n < length m)

pub are_above : (n : ℕ) (o : Name) → AllByRecursion (IsAbove n o) (above_with_more n o)
are_above n [] = tt
are_above n (label ∷ x) =
    elim (nat_lt n (length x)) as (λ b. nat_lt n (length x) ≡ b → AllByRecursion (IsAbove n (label ∷ x)) (cond b (above_with_more n x ++ x ∷ []) [])) [
      | true ↦ λ e. all_both _ _ _
          (weaker _ _ (λ m h. (
            below_trans (label ∷ x) x m (below_parent label x) h.0,
            omega (arith, h.1),
            h.2,
          )) _ (are_above n x))
          ((below_parent label x, omega arith, grind (arith, nat_tests)), tt)
      | false ↦ λ e. tt
    ] refl

pub has_each : (n : ℕ) (o x : Name) → is_at_or_below o x ≡ true → n < length x → length x < length o
    → list_any (λ m. same_name m x) (above_with_more n o) ≡ true
has_each n [] x h more fewer = absurd (omega arith)
has_each n (label ∷ o) x h more fewer = grind (arith, common_steps, nat_tests, cons_below, same_itself, at_length, (has_each n o x))

-- with nothing to add
pub more_end : (n : ℕ) (x : Name) (names : List Name) → length x ≤ n + 1 → names ≡ names ++ above_with_more n x
more_end n x names h = sym (ap (λ rest. names ++ rest) (more_none n x h) ∙ append-nil names)

-- ---- The names of the chain are those that exist over its owners; what that says of closest enclosers and of zone cuts.

strictly_down : (x m c : Name) → is_at_or_below m x ≡ true → is_strictly_below x c ≡ true → is_strictly_below m c ≡ true
strictly_down x m c p s = grind (arith, common_steps, below_trans)

-- at or below a name is that name, or strictly below it
same_or_below : (n x : Name) → is_at_or_below n x ≡ (same_name n x || is_strictly_below n x)
same_or_below n x = grind (arith, common_steps, one_lowered, below_itself)

pub any_at_or_below : (x : Name) (ks : List Name)
    → list_any (λ n. is_at_or_below n x) ks ≡ (list_any (λ n. same_name n x) ks || list_any (λ n. is_strictly_below n x) ks)
any_at_or_below x [] = refl
any_at_or_below x (k ∷ ks) = grind (arith, common_steps, same_or_below, (any_at_or_below x ks))

-- of the tests of a name: an owner of the chain, one is strictly below it, it owns records, it is at or below the apex
exists_alike : (o b w l : Bool) → l ≡ true → (w ≡ true → b ≡ true → o ≡ true) → (l && (o || b)) ≡ (o || ((l && not w) && b))
exists_alike o b w l h f = grind (arith, common_steps)

empty_alike : (o b w l : Bool) → (o ≡ true → w ≡ true) → (l ≡ true → w ≡ true → b ≡ true → o ≡ true) → ((l && not o) && b) ≡ ((l && not w) && b)
empty_alike o b w l f g = grind (arith, common_steps)

module _ (L : List ZoneRecord) (a : Name) (config : ChainConfig) where
  -- the owners that are not occluded and not left out
  pub original_is : (x : Name) → is_original_owner L a config x
      ≡ ((owns L x && is_unoccluded config.occlude_below_dname L a x) && not (is_excluded L a config x))
  original_is x =
      let d : Bool = config.occlude_below_dname in
      let typed : Name → ℕ → Bool = λ k. has_type (filter (λ r. same_lowered (lowered r.owner) k) L) in
      let stays : Name → Bool = λ k. not (excludes config && ((lowered_below k (lowered a) && not (same_lowered k (lowered a)) && typed k ns)
      && not (typed k ds))) in
      any_filter (λ n. same_name n x) (λ n. not (is_excluded L a config n)) (unoccluded_owners d L a) ∙ either_way _ _
      (λ h.
      let m = any_in (λ n. not (is_excluded L a config n) && same_name n x) (unoccluded_owners d L a) h in
      let p = and_parts (not (is_excluded L a config m.0)) (same_name m.0 x) m.2 in
      let own = all_in (λ n. (owns L n ≡ true) × (is_unoccluded d L a n ≡ true)) (unoccluded_owners d L a) m.0 (owners_are d L a) m.1 in
      rw (← one_lowered m.0 x p.1, own.0, own.1, p.0) refl)
      (λ h.
      let p = and_parts (owns L x && is_unoccluded d L a x) (not (is_excluded L a config x)) h in
      let q = and_parts (owns L x) (is_unoccluded d L a x) p.0 in
      any_owner d L a x (λ k. stays k && same_lowered k (lowered x)) q.0 q.1 (λ i. p.1 i && same_itself x x refl i))

  -- the apex is one where it owns records
  pub apex_original : owns L a ≡ true → is_original_owner L a config a ≡ true
  apex_original o = grind (arith, common_steps, original_is, apex_unoccluded, same_itself)

  -- a zone cut that is no owner of the chain is left out
  pub out_flag : (c : Name) → is_zone_cut L a c ≡ true → is_unoccluded config.occlude_below_dname L a c ≡ true
      → is_original_owner L a config c ≡ false → is_opt_out config.flags ≡ true
  out_flag c cut high out = grind (arith, common_steps, original_is, typed_owns)

  cut_occludes : (c : Name) → is_zone_cut L a c ≡ true → occludes config.occlude_below_dname L a c ≡ true
  cut_occludes c cut = grind (arith, common_steps)

  owner_unoccluded : (m : Name) → is_original_owner L a config m ≡ true → is_occluded config.occlude_below_dname L a m ≡ false
  owner_unoccluded m h = grind (arith, common_steps, original_is)

  -- an owner of the chain is an original owner
  pub is_own : (m : Name) → In m (original_owners L a config) → is_original_owner L a config m ≡ true
  is_own m i = in_any (λ n. same_name n m) (original_owners L a config) m i (same_itself m m refl)

  -- a name that owns records and has a chain owner below it is a chain owner
  owner_above : (x : Name) → is_at_or_below x a ≡ true → owns L x ≡ true
      → list_any (λ n. is_strictly_below n x) (original_owners L a config) ≡ true → is_original_owner L a config x ≡ true
  owner_above x low o h =
      let m = any_in (λ n. is_strictly_below n x) (original_owners L a config) h in
      let high = owner_unoccluded m.0 (is_own m.0 m.1) in
      let x_high = false_from_ne_true (is_occluded config.occlude_below_dname L a x) (λ e. false≢true (sym high ∙ any_weaker _ _
      (λ r t. let q = and_parts _ _ t in and_from _ _ q.0 (strictly_down x m.0 _ (and_parts (is_at_or_below m.0 x) _ m.2).0 q.1)) L e)) in
      let no_cut = false_from_ne_true (is_zone_cut L a x) (λ e. false≢true (sym high ∙ below_occluder _ L a x m.0 (cut_occludes x e) m.2)) in
      original_is x ∙ (λ i. (o i && (low i && not (x_high i))) && not (excludes config && (no_cut i && not (has_type (records_of L x) ds))))
      ∙ ap not (and_false (excludes config))

  -- what exists over the chain owners
  pub existing_are : (x : Name) → is_at_or_below x a ≡ true → exists_over (original_owners L a config) a x ≡ is_chain_name L a config x
  existing_are x low = grind (arith, common_steps, any_at_or_below, exists_alike, owner_above)

  -- over the owners alone
  pub empty_are : (x : Name) → is_empty_nonterminal (original_owners L a config) a x ≡ is_empty_in_chain L a config x
  empty_are x = grind (arith, common_steps, empty_alike, original_is, owner_above)

  -- the owners and the empty non-terminals over them are the names of the chain
  pub names_are : (empty : List Name) → ((x : Name) → list_any (λ n. same_name n x) empty
      ≡ is_empty_nonterminal (original_owners L a config) a x) → (x : Name)
      → list_any (λ n. same_name n x) (original_owners L a config ++ empty) ≡ is_chain_name L a config x
  names_are empty h x = grind (arith, common_steps, empty_are)

  pub runs_to_encloser : (x e d : Name) → IsClosestEncloser (original_owners L a config) a x e → is_at_or_below x d ≡ true
      → is_at_or_below d a ≡ true → is_chain_name L a config d ≡ is_at_or_below e d
  runs_to_encloser x e d c p q =
      sym (existing_are d q) ∙ either_way _ _ (λ h. below_longer x e d c.above p (c.longest d h p)) (λ h. and_from _ _ q
      (any_weaker _ _ (λ n t. below_trans n e d t h) _ (and_parts (is_at_or_below e a) _ c.found).1))

  below_none : (c m : Name) → is_zone_cut L a c ≡ true → In m (original_owners L a config) → is_strictly_below m c ≡ true → ⊥
  below_none c m cut i s = false≢true (sym (owner_unoccluded m (is_own m i)) ∙ below_occluder _ L a c m (cut_occludes c cut) s)

  pub cut_encloses : CutsEnclose L a config
  cut_encloses = record {
    each = λ c x cut k s.
        let down = (and_parts (is_at_or_below x c) _ s).0 in
        let low = (and_parts (is_at_or_below c a) _ (and_parts _ _ cut).0).0 in
        record {
          found = and_from (is_at_or_below c a) _ low (any_at_or_below c (original_owners L a config) ∙ or_left _ _ k);
          above = down;
          longest = λ d h p. elim (cases_lt (length c) (length d)) [
            | inl l ↦
                let m = any_in _ _ (and_parts (is_at_or_below d a) _ h).1 in
                let under = strictly_from d c (below_longer x d c p down (omega arith)) l in
                absurd (below_none c m.0 cut m.1 (strictly_down d m.0 c m.2 under))
            | inr l ↦ l
          ];
        };
  }

  pub cut_is_out : (c : Name) → is_zone_cut L a c ≡ true → list_any (λ n. same_name n c) (original_owners L a config) ≡ false
      → is_chain_name L a config c ≡ false
  cut_is_out c cut k = grind (arith, common_steps, any_in, below_none)

-- ---- Names over owners that stand in order: they ascend, and those above them are no owners.

-- ---- ascending lists of names

less_is : (r : Ordering) → is_lt r ≡ true → r ≡ Less
less_is r h = grind (arith, common_steps)

pub sorted : (ks : List Name) → IsAscending before ks → IsStrictlySortedBy canonical_cmp ks
unfolding IsStrictlySortedBy
sorted [] h = tt
sorted (k ∷ ks) h = (weaker (λ y. before k y ≡ true) (λ y. canonical_cmp k y ≡ Less) (λ y e. less_is (canonical_cmp k y) e) ks h.0, sorted ks h.1)

pub ascends_both : (lt : Name → Name → Bool) (xs ys : List Name) → IsAscending lt xs → IsAscending lt ys
    → AllByRecursion (λ x. AllByRecursion (λ y. lt x y ≡ true) ys) xs → IsAscending lt (xs ++ ys)
ascends_both lt [] ys h k across = k
ascends_both lt (x ∷ xs) ys h k across = (all_both (λ y. lt x y ≡ true) xs ys h.0 across.0, ascends_both lt xs ys h.1 k across.1)

-- ---- the names above one owner

-- a name above an owner comes before it
above_before : (n : ℕ) (o : Name) → AllByRecursion (λ m. before m o ≡ true) (above_with_more n o)
above_before n o =
    weaker (IsAbove n o) _ (λ m h. after_or m o (below_from o m h.0) (not-true _ (and_parts _ _ (strictly_from o m h.0 h.1)).1))
    _ (are_above n o)

above_ascend : (n : ℕ) (o : Name) → IsAscending before (above_with_more n o)
above_ascend n [] = tt
above_ascend n (label ∷ x) = grind (arith, common_steps, ascends_both, weaker, above_before, (above_ascend n x))

-- those that an owner doesn't share with a name before it come after that name
above_after : (p o : Name) → before p o ≡ true → AllByRecursion (λ m. before p m ≡ true) (above_with_more (common_labels o p) o)
above_after p o b =
    weaker (IsAbove _ o) _ (λ m h. grind (arith, common_steps, nat_tests, before_order, (common_shares o p m h.0), (below_between o m p h.0))) _ (are_above _ o)

-- ---- those above each owner that it doesn't share with the one before it, with the owners or without

module _ (with_owners : Bool) where
  -- what an owner adds, with p before it
  abbrev added : Name → Name → List Name
  added p o = if with_owners then above_with_more (common_labels o p) o ++ o ∷ [] else above_with_more (common_labels o p) o

  abbrev pub gathered : Name → List Name → List Name
  gathered p [] = []
  gathered p (o ∷ os) = added p o ++ gathered o os

  -- all of it is of a kind where the owner and the names above it are
  added_are : (P : Name → Type 0) (p o : Name) → P o → AllByRecursion P (above_with_more (common_labels o p) o) → AllByRecursion P (added p o)
  added_are P p o own above = by with_owners
    where
      by : (w : Bool) → AllByRecursion P (if w then above_with_more (common_labels o p) o ++ o ∷ [] else above_with_more (common_labels o p) o)
      by true = all_both P _ (o ∷ []) above (own, tt)
      by false = above

  added_ascend : (p o : Name) → IsAscending before (added p o)
  added_ascend p o = by with_owners
    where
      by : (w : Bool) → IsAscending before (if w then above_with_more (common_labels o p) o ++ o ∷ [] else above_with_more (common_labels o p) o)
      by true = ascends_both before _ (o ∷ []) (above_ascend _ o) (tt, tt) (weaker _ _ (λ m e. (e, tt)) _ (above_before _ o))
      by false = above_ascend _ o

  gathered_after : (p : Name) (os : List Name) → IsAscending before (p ∷ os) → AllByRecursion (λ m. before p m ≡ true) (gathered p os)
  gathered_after p [] h = tt
  gathered_after p (o ∷ os) h =
      all_both _ (added p o) (gathered o os) (added_are _ p o h.0.0 (above_after p o h.0.0))
      (weaker _ _ (λ m e. lt_trans before_order p o m h.0.0 e) _ (gathered_after o os h.1))

  gathered_ascend : (p : Name) (os : List Name) → IsAscending before os → IsAscending before (gathered p os)
  gathered_ascend p [] h = tt
  gathered_ascend p (o ∷ os) h =
      ascends_both before (added p o) (gathered o os) (added_ascend p o) (gathered_ascend o os h.1)
      (weaker _ _ (λ m e. weaker _ _ (λ n f. le_lt before_order m o n e f) _ (gathered_after o os h)) _
      (added_are (λ m. before o m ≡ false) p o (below_from o o (below_itself o))
      (weaker _ _ (λ m e. before_order.one_way m o e) _ (above_before _ o))))

-- one more owner
pub gathered_step : (w : Bool) (names more last : List Name) (p o : Name) (s : ℕ) (left rest all : List Name) → left ≡ o ∷ rest
    → s ≡ common_labels o p → more ≡ names ++ above_with_more s o → last ≡ (if w then more ++ o ∷ [] else more)
    → names ++ gathered w p left ≡ all → last ++ gathered w o rest ≡ all
gathered_step true names more last p o s left rest all left_is shared pushed added h = grind (arith, common_steps)
gathered_step false names more last p o s left rest all left_is shared pushed added h = grind (arith, common_steps)

-- with the owners there are these, and those without
gathered_with : (f : Name → Bool) (p : Name) (os : List Name) → list_any f (gathered true p os) ≡ (list_any f os || list_any f (gathered false p os))
gathered_with f p [] = refl
gathered_with f p (o ∷ os) = grind (arith, common_steps, (gathered_with f o os))

none_same : (o n : Name) (os : List Name) → before n o ≡ true → AllByRecursion (λ m. before o m ≡ true) os → list_any (λ m. same_name m n) os ≡ false
none_same o n [] e h = refl
none_same o n (m ∷ os) e h = λ i. apart_right n m (lt_trans before_order n o m e h.0) i || none_same o n os e h.1 i

gathered_apart : (p : Name) (os : List Name) → IsAscending before os → AllByRecursion (λ m. list_any (λ n. same_name n m) os ≡ false) (gathered false p os)
gathered_apart p [] h = tt
gathered_apart p (o ∷ os) h =
    all_both _ _ _ (weaker _ _ (λ m e. (λ i. apart_right m o e i || none_same o m os e h.0 i)) _ (above_before _ o))
    (all_from_in _ _ (λ m i. (λ j. apart_left o m (all_in _ _ m (gathered_after false o os h) i) j || all_in _ _ m (gathered_apart o os h.1) i j)))

-- each name above an owner is one of them or is gathered, unless it is above the name before the owners
gathered_each : (p : Name) (os : List Name) (x : Name) → is_at_or_below p x ≡ false → list_any (λ n. is_at_or_below n x) os ≡ true
    → (list_any (λ n. same_name n x) os || list_any (λ n. same_name n x) (gathered false p os)) ≡ true
gathered_each p [] x out h = absurd (false≢true h)
gathered_each p (o ∷ os) x out h = grind (arith, common_steps, nat_tests, has_each, at_length, same_itself, (common_shares o p x), (gathered_each o os x))

-- what is gathered is strictly below an apex of all, and above an owner
gathered_are : (a p : Name) (os : List Name) → is_at_or_below p a ≡ true → AllByRecursion (λ n. is_at_or_below n a ≡ true) os
    → AllByRecursion (λ m. (is_strictly_below m a ≡ true) × (list_any (λ n. is_strictly_below n m) os ≡ true)) (gathered false p os)
gathered_are a p [] low all = tt
gathered_are a p (o ∷ os) low all =
    let short : length a ≤ common_labels o p = leb-true _ _ (sym (common_shares o p a all.0) ∙ low) in
    all_both _ (above_with_more (common_labels o p) o) (gathered false o os)
    (weaker (IsAbove (common_labels o p) o) _ (λ m h. (
      strictly_from m a (below_longer o m a h.0 all.0 (omega (arith, short, h.2))) (omega (arith, short, h.2)),
      or_left (is_strictly_below o m) _ (strictly_from o m h.0 h.1),
    )) _ (are_above (common_labels o p) o))
    (weaker _ _ (λ m h. (h.0, or_right (is_strictly_below o m) _ h.1)) _ (gathered_are a o os all.0 all.1))

-- so they are the empty non-terminals
empty_listed : (a : Name) (owners : List Name) → IsStrictlySortedBy canonical_cmp owners → AllByRecursion (λ n. is_at_or_below n a ≡ true) owners
    → list_any (λ n. same_name n a) owners ≡ true → IsListOf (is_empty_nonterminal owners a) (gathered false a owners)
empty_listed a owners up low apex = record {
  ascend = sorted (gathered false a owners) (gathered_ascend false a owners (ascending canonical_cmp owners up));
  exactly = λ x. either_way _ (is_empty_nonterminal owners a x) (there x) (back x);
}
  where
    there : (x : Name) → list_any (λ n. same_name n x) (gathered false a owners) ≡ true → is_empty_nonterminal owners a x ≡ true
    there x e =
        let m = any_in (λ n. same_name n x) (gathered false a owners) e in
        let g = all_in _ (gathered false a owners) m.0 (gathered_are a a owners (below_itself a) low) m.1 in
        let none = all_in _ (gathered false a owners) m.0 (gathered_apart a owners (ascending canonical_cmp owners up)) m.1 in
        rw (← one_lowered m.0 x m.2, (and_parts (is_at_or_below m.0 a) _ g.0).0, none, g.1) refl

    back : (x : Name) → is_empty_nonterminal owners a x ≡ true → list_any (λ n. same_name n x) (gathered false a owners) ≡ true
    back x e = grind (
      arith,
      common_steps,
      one_lowered,
      (same_both x a),
      (gathered_each a owners x),
      (any_weaker (λ n. is_strictly_below n x) (λ n. is_at_or_below n x) (λ n t. (and_parts (is_at_or_below n x) _ t).0) owners),
    )

-- and with the owners all that exists over them
all_exist : (a : Name) (owners : List Name) → AllByRecursion (λ n. is_at_or_below n a ≡ true) owners → (x : Name)
    → (list_any (λ n. same_name n x) owners || is_empty_nonterminal owners a x) ≡ exists_over owners a x
all_exist a owners low x = grind (arith, common_steps, (any_at_or_below x owners), own)
  where
    own : list_any (λ n. same_name n x) owners ≡ true → is_at_or_below x a ≡ true
    own e =
        let m = any_in (λ n. same_name n x) owners e in
        rw (← one_lowered m.0 x m.2) (all_in _ owners m.0 low m.1)

pub listed : (with_owners : Bool) (a : Name) (owners : List Name) → IsStrictlySortedBy canonical_cmp owners
    → AllByRecursion (λ n. is_at_or_below n a ≡ true) owners → list_any (λ n. same_name n a) owners ≡ true
    → IsListOf (is_over with_owners owners a) (gathered with_owners a owners)
listed false a owners up low apex = empty_listed a owners up low apex
listed true a owners up low apex = record {
  ascend = sorted (gathered true a owners) (gathered_ascend true a owners (ascending canonical_cmp owners up));
  exactly = λ x. gathered_with (λ n. same_name n x) a owners
      ∙ ap (λ b. list_any (λ n. same_name n x) owners || b) ((empty_listed a owners up low apex).exactly x) ∙ all_exist a owners low x;
}
