-- Texts with commas between their items.
use Rattle.std.proofs.Common.{◌≡◌, ℕ, zero, suc, ◌+◌, ◌<◌, List, [], ◌∷◌, ◌++◌, length, get_or, take, drop, refl, sym, ap, ◌∙◌, subst, arith, true}
use Rattle.std.proofs.Common.{false, append_assoc, add-one}
use Rattle.std.proofs.lemmas.{Grind.common_steps, Bool.Decides.nat_tests, List.append-nil}
use Rattle.domain_svcb.specs.Values.{comma_items, prefixed, ItemTexts, Parameter, AddsKey, KeyItems, parameter_placed, bare, has_key}
use Rattle.std.specs.Prelude.{◌==◌}
use Rattle.domain_svcb.specs.Keys.{ParameterKeyText}
use Rattle.domain_svcb.proofs.KeyLemmas.{one_key}

same_comma : (c : ℕ) → c ≡ 44 → (c == 44) ≡ true
same_comma c is = grind (arith, common_steps, nat_tests)

no_comma : (c : ℕ) → (c ≡ 44 → ⊥) → (c == 44) ≡ false
no_comma c other = grind (arith, common_steps, nat_tests)

pub items_cut : (text : List ℕ) (i : ℕ) → i < length text → ((k : ℕ) → k < i → get_or text k 0 ≡ 44 → ⊥) → get_or text i 0 ≡ 44
    → comma_items text ≡ take i text ∷ comma_items (drop (i + 1) text)
unfolding comma_items
items_cut [] i below none here = absurd (omega (arith, below))
items_cut (c ∷ text) zero below none here = let e : (c == 44) ≡ true = same_comma c here in rw e refl
items_cut (c ∷ text) (suc i) below none here =
    let more = items_cut text i (omega (arith, below)) (λ k low at. none (suc k) (omega (arith, low)) at) here in
    let other : (c == 44) ≡ false = no_comma c (none 0 (omega arith)) in
    rw other (ap (prefixed c) more ∙ ap (λ n. (c ∷ take i text) ∷ comma_items (drop n (c ∷ text))) (let e : suc (i + 1) ≡ suc i + 1 = omega arith in e))

pub items_none : (text : List ℕ) → ((k : ℕ) → k < length text → get_or text k 0 ≡ 44 → ⊥) → comma_items text ≡ text ∷ []
unfolding comma_items
items_none [] none = refl
items_none (c ∷ text) none =
    let more = items_none text (λ k low at. none (suc k) (omega (arith, low)) at) in
    let other : (c == 44) ≡ false = no_comma c (none 0 (omega arith)) in
    rw other (ap (prefixed c) more)

-- ---- items that spell octets

-- the items so far spell `done`, and those of the rest decide about what comes after
pub record ReadsItems (P : List ℕ → List ℕ → Type 0) (text rest done : List ℕ) : Type 0 where
  pub back : (more : List ℕ) → ItemTexts P (comma_items rest) more → ItemTexts P (comma_items text) (done ++ more)
  pub forth : (all : List ℕ) → ItemTexts P (comma_items text) all → (more : List ℕ) × ItemTexts P (comma_items rest) more

pub items_next : (P : List ℕ → List ℕ → Type 0) (text rest item after done part new : List ℕ) → ReadsItems P text rest done
    → comma_items rest ≡ item ∷ comma_items after → P item part → new ≡ done ++ part → ReadsItems P text after new
items_next P text rest item after done part new so cut is new_is = record {
  back = λ more later.
      let here : ItemTexts P (comma_items rest) (part ++ more) =
      subst (λ items. ItemTexts P items (part ++ more)) (sym cut) (part, more, refl, is, later) in
      subst (ItemTexts P (comma_items text)) (sym (ap (λ d. d ++ more) new_is ∙ append_assoc done part more)) (so.back (part ++ more) here);
  forth = λ all whole.
      let found = so.forth all whole in
      let split = subst (λ items. ItemTexts P items found.0) cut found.1 in
      (split.1, split.4);
}

pub items_last : (P : List ℕ → List ℕ → Type 0) (text rest done part : List ℕ) → ReadsItems P text rest done → comma_items rest ≡ rest ∷ [] → P rest part
    → ItemTexts P (comma_items text) (done ++ part)
items_last P text rest done part so cut is =
    so.back part (subst (λ items. ItemTexts P items part) (sym cut) (part, [], sym (append-nil part), is, refl))

-- ---- items that spell keys

pub one_added : (item : List ℕ) (before a b : List Parameter) → AddsKey item before a → AddsKey item before b → a ≡ b
one_added item before a b is other =
    is.placed_is ∙ ap (λ k. parameter_placed (bare k) before) (one_key item is.key other.key is.spelled other.spelled) ∙ sym other.placed_is

pub record ReadsKeys (text rest : List ℕ) (now : List Parameter) : Type 0 where
  pub back : (all : List Parameter) → KeyItems now (comma_items rest) all → KeyItems [] (comma_items text) all
  pub forth : (all : List Parameter) → KeyItems [] (comma_items text) all → KeyItems now (comma_items rest) all

pub keys_begin : (text : List ℕ) (now : List Parameter) → now ≡ [] → ReadsKeys text text now
keys_begin text now none = record {
  back = λ all is. subst (λ n. KeyItems n (comma_items text) all) none is;
  forth = λ all is. subst (λ n. KeyItems n (comma_items text) all) (sym none) is;
}

pub keys_next : (text rest item after : List ℕ) (now next : List Parameter) → ReadsKeys text rest now → comma_items rest ≡ item ∷ comma_items after
    → AddsKey item now next → ReadsKeys text after next
keys_next text rest item after now next so cut adds = record {
  back = λ all later. so.back all (subst (λ items. KeyItems now items all) (sym cut) (next, adds, later));
  forth = λ all whole.
      let found = subst (λ items. KeyItems now items all) cut (so.forth all whole) in
      subst (λ n. KeyItems n (comma_items after) all) (one_added item now found.0 next found.1 adds) found.2;
}

pub keys_refused : (text rest item after : List ℕ) (now : List Parameter) → ReadsKeys text rest now → comma_items rest ≡ item ∷ comma_items after
    → ((next : List Parameter) → AddsKey item now next → ⊥) → (all : List Parameter) → KeyItems [] (comma_items text) all → ⊥
keys_refused text rest item after now so cut none all whole =
    let found = subst (λ items. KeyItems now items all) cut (so.forth all whole) in none found.0 found.1

pub last_key_refused : (text rest : List ℕ) (now : List Parameter) → ReadsKeys text rest now → comma_items rest ≡ rest ∷ []
    → ((next : List Parameter) → AddsKey rest now next → ⊥) → (all : List Parameter) → KeyItems [] (comma_items text) all → ⊥
last_key_refused text rest now so cut none all whole =
    let found = subst (λ items. KeyItems now items all) cut (so.forth all whole) in none found.0 found.1

-- ---- a text spells its values in one way

pub one_items : (P : List ℕ → List ℕ → Type 0) → ((text a b : List ℕ) → P text a → P text b → a ≡ b) → (items : List (List ℕ)) (a b : List ℕ)
    → ItemTexts P items a → ItemTexts P items b → a ≡ b
one_items P one [] a b is other = is ∙ sym other
one_items P one (item ∷ items) a b is other =
    is.2 ∙ ap (λ x. x ++ is.1) (one item is.0 other.0 is.3 other.3) ∙ ap (λ y. other.0 ++ y) (one_items P one items is.1 other.1 is.4 other.4)
    ∙ sym other.2

pub one_keys : (items : List (List ℕ)) (before a b : List Parameter) → KeyItems before items a → KeyItems before items b → a ≡ b
one_keys [] before a b is other = is ∙ sym other
one_keys (item ∷ items) before a b is other =
    let same = one_added item before is.0 other.0 is.1 other.1 in
    one_keys items other.0 a b (subst (λ n. KeyItems n items a) same is.2) other.2

-- ---- keys that are not added

pub no_key_added : (item : List ℕ) (before after : List Parameter) → ((key : ℕ) → ParameterKeyText item key → ⊥) → AddsKey item before after → ⊥
no_key_added item before after none adds = none adds.key adds.spelled

pub no_zero_added : (item : List ℕ) (key : ℕ) (before after : List Parameter) → ParameterKeyText item key → key ≡ 0 → AddsKey item before after → ⊥
no_zero_added item key before after is nothing adds = omega (arith, adds.other, one_key item adds.key key adds.spelled is, nothing)

pub no_twice_added : (item : List ℕ) (key : ℕ) (before after : List Parameter) → ParameterKeyText item key → has_key key before ≡ true
    → AddsKey item before after → ⊥
no_twice_added item key before after is there adds =
    let same = ap (λ k. has_key k before) (one_key item adds.key key adds.spelled is) in
    let once = adds.once in cc
