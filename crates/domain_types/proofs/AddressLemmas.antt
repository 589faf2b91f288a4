-- EUI addresses and locators that a text spells.
use Rattle.std.proofs.Common.{◌≡◌, ℕ, ◌+◌, ◌*◌, ◌<◌, ◌≤◌, List, [], ◌∷◌, ◌++◌, length, get_or, take, drop, ◌-◌, ◌^◌, zero, suc}
use Rattle.std.proofs.Common.{inl, inr, refl, sym, ap, ◌∙◌, subst, arith, length-append}
use Rattle.std.proofs.lemmas.{Bool.{cases_eq, cases_lt}, List.{take_at, get_or_append_left}}
use Rattle.std.specs.{Char.digit_value, Net.Grammar.IsGroup, Str.Parse.{AllDigits, digits_value}}
use Rattle.domain_types.specs.Addresses.{BeginsWithGroup, EuiText}

-- ---- two digits

two_digits : (text : List ℕ) → length text ≤ 2 → AllDigits 16 text → digits_value 16 text < 256
two_digits [] short all = omega arith
two_digits (a ∷ []) short all = omega (arith, all.0)
two_digits (a ∷ b ∷ []) short all = omega (arith, all.0, all.1.0)
two_digits (a ∷ b ∷ c ∷ text) short all = absurd (omega (arith, short))

pub group_small : (text : List ℕ) (n : ℕ) → length text ≤ 2 → IsGroup text n → n < 256
group_small text n short is = subst (λ m. m < 256) is.0.1 (two_digits text short is.0.0.1)

-- ---- groups before a colon

colon_at : (group rest : List ℕ) → get_or (group ++ 58 ∷ rest) (length group) 0 ≡ 58
colon_at [] rest = refl
colon_at (c ∷ group) rest = colon_at group rest

no_colon : (group : List ℕ) (i : ℕ) → AllDigits 16 group → i < length group → get_or group i 0 ≡ 58 → ⊥
no_colon [] i all below is = omega (arith, below)
no_colon (c ∷ group) zero all below is = let wrong : 36 < 16 = subst (λ x. digit_value x < 16) is all.0 in omega (arith, wrong)
no_colon (c ∷ group) (suc i) all below is = no_colon group i all.1 (omega (arith, below)) is

-- the first colon ends the group
first_colon : (text group rest : List ℕ) (i : ℕ) → text ≡ group ++ 58 ∷ rest → AllDigits 16 group → get_or text i 0 ≡ 58
    → ((k : ℕ) → k < i → get_or text k 0 ≡ 58 → ⊥) → i ≡ length group
first_colon text group rest i parts all here before = elim (cases_lt i (length group)) [
  | inl below ↦
      let same = ap (λ t. get_or t i 0) parts ∙ get_or_append_left group (58 ∷ rest) 0 i below in
      absurd (no_colon group i all below (sym same ∙ here))
  | inr over ↦ elim (cases_eq i (length group)) [
    | inl same ↦ same
    | inr other ↦ absurd (before (length group) (omega (arith, over, other)) (ap (λ t. get_or t (length group) 0) parts ∙ colon_at group rest))
  ]
]

-- a text whose octets before the first colon are no number
pub no_number_begins : (text : List ℕ) (i n : ℕ) (rest : List ℕ) → get_or text i 0 ≡ 58 → ((k : ℕ) → k < i → get_or text k 0 ≡ 58 → ⊥)
    → ((m : ℕ) → IsGroup (take i text) m → ⊥) → BeginsWithGroup text n rest → ⊥
no_number_begins text i n rest here before none is =
    let at = first_colon text is.group rest i is.parts is.number.0.0.1 here before in
    let front : take i text ≡ is.group = ap (take i) is.parts ∙ take_at is.group (58 ∷ rest) i (sym at) in
    none n (subst (λ t. IsGroup t n) (sym front) is.number)

-- a text without a colon
pub nothing_begins : (text : List ℕ) (i n : ℕ) (rest : List ℕ) → length text ≤ i → ((k : ℕ) → k < i → get_or text k 0 ≡ 58 → ⊥)
    → BeginsWithGroup text n rest → ⊥
nothing_begins text i n rest over before is =
    let size = ap length is.parts ∙ length-append is.group (58 ∷ rest) in
    before (length is.group) (omega (arith, size, over)) (ap (λ t. get_or t (length is.group) 0) is.parts ∙ colon_at is.group rest)

rest_of : (group rest : List ℕ) → drop (suc (length group)) (group ++ 58 ∷ rest) ≡ rest
rest_of [] rest = refl
rest_of (c ∷ group) rest = rest_of group rest

rest_is : (text group rest : List ℕ) → text ≡ group ++ 58 ∷ rest → drop (suc (length group)) text ≡ rest
rest_is text group rest parts = ap (drop (suc (length group))) parts ∙ rest_of group rest

-- what follows the first group is known
pub one_rest : (text : List ℕ) (m n : ℕ) (x y : List ℕ) → BeginsWithGroup text m x → BeginsWithGroup text n y → x ≡ y
one_rest text m n x y first other =
    let here = ap (λ t. get_or t (length first.group) 0) first.parts ∙ colon_at first.group x in
    let before = λ (k : ℕ) (below : k < length first.group) (is : get_or text k 0 ≡ 58). no_colon first.group k first.number.0.0.1 below
    (sym (ap (λ t. get_or t k 0) first.parts ∙ get_or_append_left first.group (58 ∷ x) 0 k below) ∙ is) in
    let at = first_colon text other.group y (length first.group) other.parts other.number.0.0.1 here before in
    sym (rest_is text first.group x first.parts) ∙ ap (λ n. drop (suc n) text) at ∙ rest_is text other.group y other.parts

-- ---- numbers of four digits

pub digit_fits : (i n : ℕ) → n < 16 ^ i → i < 4 → 16 * n + 15 < 65536
digit_fits zero n small few = omega (arith, small)
digit_fits (suc zero) n small few = omega (arith, small)
digit_fits (suc (suc zero)) n small few = omega (arith, small)
digit_fits (suc (suc (suc zero))) n small few = omega (arith, small)
digit_fits (suc (suc (suc (suc i)))) n small few = absurd (omega (arith, few))

-- ---- EUI addresses

pub wrong_dash : (count i : ℕ) (text octets : List ℕ) → 0 < i → i < count → (get_or text (3 * i - 1) 0 ≡ 45 → ⊥) → EuiText count text octets → ⊥
wrong_dash count i text octets some below wrong is =
    let at : 3 * (i - 1) + 2 ≡ 3 * i - 1 = omega (arith, some) in
    let dash = is.dashes (i - 1) (omega (arith, some, below)) in
    wrong (subst (λ k. get_or text k 0 ≡ 45) at dash)
