-- Prefixes of addresses that a text spells.
use Rattle.std.proofs.Common.{◌≡◌, ℕ, zero, suc, ◌+◌, ◌-◌, ◌*◌, ◌%◌, ◌<◌, ◌≤◌, List, [], ◌∷◌, ◌++◌, length, get_or, take, drop}
use Rattle.std.proofs.Common.{refl, sym, ap, ◌∙◌, subst, arith, length-append}
use Rattle.std.proofs.Common.{Option, Some, None, IfSome, IfNone}
use Rattle.std.proofs.lemmas.{Grind.common_steps, List.{take-append-drop}}
use Rattle.std.specs.{Prelude.slice_index, Net.Grammar.IsDotted, Char.digit_value, Str.Parse.IsNumeral}
use Rattle.domain_base.specs.Scan.{IsNumber}
use Rattle.domain_types.specs.Addresses.{LongAddressText}
use Rattle.domain_types.specs.Prefixes.{Lacks, SplitsFirst, SplitsLast, FamilyAddress, family_ipv4, family_ipv6, IsTrimmed, ItemText, colon}
use Rattle.domain_types.specs.Prefixes.{PrefixText, plain_prefix, negated_prefix, exclamation_mark}
use Rattle.domain_svcb.proofs.GatherLemmas.{length-octets_of, segments_eight}

-- ---- results of other functions

pub some_map : {V : Type 0} (P Q : V → Type 0) (result : Option V) → ((v : V) → P v → Q v) → IfSome result P → IfSome result Q
some_map P Q (Some v) to is = to v is
some_map P Q None to is = tt

pub none_map : {V : Type 0} (A B : Type 0) (result : Option V) → (A → B) → IfNone result A → IfNone result B
none_map A B (Some v) to is = tt
none_map A B None to is = to is

-- ---- texts that are split

tails_are : (x y : ℕ) (xs ys : List ℕ) → x ∷ xs ≡ y ∷ ys → xs ≡ ys
tails_are x y xs ys same = ap (drop 1) same

heads_are : (x y : ℕ) (xs ys : List ℕ) → x ∷ xs ≡ y ∷ ys → x ≡ y
heads_are x y xs ys same = ap (λ l. slice_index l 0) same

mark_at : (mark : ℕ) (front back : List ℕ) → slice_index (front ++ mark ∷ back) (length front) ≡ mark
mark_at mark [] back = refl
mark_at mark (c ∷ front) back = mark_at mark front back

-- a text with a mark does not lack it
pub mark_in : (mark : ℕ) (text front back : List ℕ) → text ≡ front ++ mark ∷ back → Lacks mark text → ⊥
mark_in mark text front back parts none =
    none (length front) (omega (arith, ap length parts, length-append front (mark ∷ back))) (ap
    (λ t. slice_index t (length front)) parts ∙ mark_at mark front back)

first_parts : (mark : ℕ) (a b x y : List ℕ) → a ++ mark ∷ x ≡ b ++ mark ∷ y → Lacks mark a → Lacks mark b → (a ≡ b) × (x ≡ y)
first_parts mark [] [] x y same none also = (refl, tails_are mark mark x y same)
first_parts mark [] (d ∷ b) x y same none also = absurd (also 0 (omega arith) (sym (heads_are mark d x (b ++ mark ∷ y) same)))
first_parts mark (c ∷ a) [] x y same none also = absurd (none 0 (omega arith) (heads_are c mark (a ++ mark ∷ x) y same))
first_parts mark (c ∷ a) (d ∷ b) x y same none also =
    let rest = first_parts mark a b x y (tails_are c d (a ++ mark ∷ x) (b ++ mark ∷ y) same) (λ i below. none (suc i) (omega (arith, below)))
    (λ i below. also (suc i) (omega (arith, below))) in
    (ap (λ n. n ∷ a) (heads_are c d (a ++ mark ∷ x) (b ++ mark ∷ y) same) ∙ ap (λ l. d ∷ l) rest.0, rest.1)

last_parts : (mark : ℕ) (a b x y : List ℕ) → a ++ mark ∷ x ≡ b ++ mark ∷ y → Lacks mark x → Lacks mark y → (a ≡ b) × (x ≡ y)
last_parts mark [] [] x y same none also = (refl, tails_are mark mark x y same)
last_parts mark [] (d ∷ b) x y same none also = absurd (mark_in mark x b y (tails_are mark d x (b ++ mark ∷ y) same) none)
last_parts mark (c ∷ a) [] x y same none also = absurd (mark_in mark y a x (sym (tails_are c mark (a ++ mark ∷ x) y same)) also)
last_parts mark (c ∷ a) (d ∷ b) x y same none also =
    let rest = last_parts mark a b x y (tails_are c d (a ++ mark ∷ x) (b ++ mark ∷ y) same) none also in
    (ap (λ n. n ∷ a) (heads_are c d (a ++ mark ∷ x) (b ++ mark ∷ y) same) ∙ ap (λ l. d ∷ l) rest.0, rest.1)

-- a text is split at its first mark in one way, and so at its last one
pub one_first_split : (mark : ℕ) (text a b x y : List ℕ) → SplitsFirst mark text a x → SplitsFirst mark text b y → (a ≡ b) × (x ≡ y)
one_first_split mark text a b x y is also = first_parts mark a b x y (sym is.parts ∙ also.parts) is.lacks also.lacks

pub one_last_split : (mark : ℕ) (text a b x y : List ℕ) → SplitsLast mark text a x → SplitsLast mark text b y → (a ≡ b) × (x ≡ y)
one_last_split mark text a b x y is also = last_parts mark a b x y (sym is.parts ∙ also.parts) is.lacks also.lacks

-- ---- zero octets at the end

zero_or_past : (octets : List ℕ) (i : ℕ) → ((k : ℕ) → k < length octets → get_or octets k 0 ≡ 0) → get_or octets i 0 ≡ 0
zero_or_past [] i all = refl
zero_or_past (c ∷ octets) zero all = all 0 (omega arith)
zero_or_past (c ∷ octets) (suc i) all = zero_or_past octets i (λ k below. all (suc k) (omega (arith, below)))

pub zeros_after : (octets : List ℕ) (len i : ℕ) → ((k : ℕ) → len ≤ k → k < length octets → get_or octets k 0 ≡ 0) → get_or (drop len octets) i 0 ≡ 0
zeros_after octets zero i all = zero_or_past octets i (λ k below. all k (omega arith) below)
zeros_after [] (suc len) i all = refl
zeros_after (c ∷ octets) (suc len) i all = zeros_after octets len i (λ k from below. all (suc k) (omega (arith, from)) (omega (arith, below)))

last_taken : (octets : List ℕ) (len i : ℕ) → i < len → get_or (take len octets) i 0 ≡ get_or octets i 0
last_taken [] zero i below = absurd (omega (arith, below))
last_taken [] (suc len) i below = refl
last_taken (c ∷ octets) zero i below = absurd (omega (arith, below))
last_taken (c ∷ octets) (suc len) zero below = refl
last_taken (c ∷ octets) (suc len) (suc i) below = last_taken octets len i (omega (arith, below))

pub trimmed_is : (octets : List ℕ) (len : ℕ) → len ≤ length octets → ((k : ℕ) → len ≤ k → k < length octets → get_or octets k 0 ≡ 0)
    → (0 < len → get_or octets (len - 1) 0 ≡ 0 → ⊥) → IsTrimmed octets (take len octets)
trimmed_is octets len inside all ends =
    let size : length (take len octets) ≡ len = grind (arith, common_steps) in
    record {
      zeros = drop len octets;
      parts = sym (take-append-drop len octets);
      all = λ i. zeros_after octets len i all;
      last = λ i at is.
          let below : i < len = omega (arith, at, size) in
          let here : i ≡ len - 1 = omega (arith, at, size) in
          ends (omega (arith, below)) (subst (λ k. get_or octets k 0 ≡ 0) here (sym (last_taken octets len i below) ∙ is));
    }

-- ---- addresses

pub long_size : (text octets : List ℕ) → LongAddressText text octets → length octets ≡ 16
long_size text octets (a, spelled, is) = ap length is ∙ length-octets_of a.segments ∙ ap (λ n. 2 * n) (segments_eight text a.segments spelled)

pub not_ipv4 : (family : ℕ) (text octets : List ℕ) → family ≡ 1 → ((o : List ℕ) → IsDotted text o → ⊥) → FamilyAddress family text octets → ⊥
not_ipv4 family text octets one none (family_ipv4 f t o is dotted) = none octets dotted
not_ipv4 family text octets one none (family_ipv6 f t o is long) = omega (arith, one, is)

pub not_ipv6 : (family : ℕ) (text octets : List ℕ) → family ≡ 2 → ((o : List ℕ) → LongAddressText text o → ⊥) → FamilyAddress family text octets → ⊥
not_ipv6 family text octets two none (family_ipv4 f t o is dotted) = omega (arith, two, is)
not_ipv6 family text octets two none (family_ipv6 f t o is long) = none octets long

address_size : (family : ℕ) (text octets : List ℕ) → FamilyAddress family text octets → length octets + 8 ≡ 12 * family
address_size family text octets (family_ipv4 f t o is dotted) = omega (arith, ap length dotted.value, is)
address_size family text octets (family_ipv6 f t o is long) = omega (arith, long_size text octets long, is)

pub same_size : (family : ℕ) (text octets other : List ℕ) → FamilyAddress family text octets → FamilyAddress family text other → length octets ≡ length other
same_size family text octets other is also = omega (arith, address_size family text octets is, address_size family text other also)

address_short : (family : ℕ) (text octets : List ℕ) → FamilyAddress family text octets → length octets ≤ 16
address_short family text octets (family_ipv4 f t o is dotted) = omega (arith, ap length dotted.value)
address_short family text octets (family_ipv6 f t o is long) = omega (arith, long_size text octets long)

pub one_number : (bits n m : ℕ) (text : List ℕ) → IsNumber bits text n → IsNumber bits text m → n ≡ m
one_number bits n m text is also = is.value ∙ sym also.value

-- ---- prefixes

item_size : (negation : ℕ) (text octets : List ℕ) → negation ≤ 1 → ItemText negation text octets → length octets ≡ 4 + slice_index octets 3 % 128
item_size negation text octets few is =
    let short = address_short is.family is.address_text is.address is.address_is in
    let kept = ap length is.kept_is.parts ∙ length-append is.kept is.kept_is.zeros in
    subst (λ o. length o ≡ 4 + slice_index o 3 % 128) (sym is.wire) (omega (arith, few, short, kept))

pub prefix_size : (text octets : List ℕ) → PrefixText text octets → length octets ≡ 4 + slice_index octets 3 % 128
prefix_size text octets (plain_prefix t o is) = item_size 0 text octets (omega arith) is
prefix_size text octets (negated_prefix t item o at is) = item_size 1 item octets (omega arith) is

-- a number does not begin with an exclamation mark
digits_first : (text digits back item : List ℕ) → text ≡ digits ++ back → text ≡ exclamation_mark ∷ item → IsNumeral 10 digits → ⊥
digits_first text [] back item parts at is = omega (arith, is.0)
digits_first text (c ∷ digits) back item parts at is =
    let same = heads_are c 33 (digits ++ back) item (sym parts ∙ at) in
    let wrong : 36 < 10 = subst (λ x. digit_value x < 10) same is.1.0 in omega (arith, wrong)

plain_after_mark : (text item octets : List ℕ) → text ≡ exclamation_mark ∷ item → ItemText 0 text octets → ⊥
plain_after_mark text item octets at is = digits_first text is.family_text (colon ∷ is.after_colon) item is.colon_is.parts at is.family_is.digits

pub negated_item : (text item octets : List ℕ) → text ≡ exclamation_mark ∷ item → PrefixText text octets → ((o : List ℕ) → ItemText 1 item o → ⊥) → ⊥
negated_item text item octets at (plain_prefix t o is) none = plain_after_mark text item octets at is
negated_item text item octets at (negated_prefix t other o also is) none =
    none octets (subst (λ i. ItemText 1 i octets) (tails_are 33 33 other item (sym also ∙ at)) is)

pub plain_item : (text octets : List ℕ) → ((item : List ℕ) → text ≡ exclamation_mark ∷ item → ⊥) → PrefixText text octets
    → ((o : List ℕ) → ItemText 0 text o → ⊥) → ⊥
plain_item text octets unmarked (plain_prefix t o is) none = none octets is
plain_item text octets unmarked (negated_prefix t item o at is) none = unmarked item at
