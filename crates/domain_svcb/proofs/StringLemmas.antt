-- Strings as text.
use Rattle.std.proofs.Common.{◌≡◌, ℕ, suc, ◌+◌, ◌<◌, List, [], ◌∷◌, ◌++◌, length, drop, refl, sym, ap, ◌∙◌, subst, arith, length-append, Option}
use Rattle.std.proofs.Common.{Some, None}
use Rattle.std.proofs.lemmas.{Grind.common_steps, List.{append_assoc, append-nil}}
use Rattle.domain_svcb.specs.Strings.{string_octet, StringText, string_ends, string_goes}

-- the text spells these octets and then what the rest of it spells
pub record ReadsString (text string rest : List ℕ) : Type 0 where
  pub back : (more : List ℕ) → StringText rest more → StringText text (string ++ more)
  pub forth : (all : List ℕ) → StringText text all → (more : List ℕ) × (all ≡ string ++ more) × StringText rest more

pub string_begins : (text : List ℕ) → ReadsString text [] text
string_begins text = record { back = λ more is. is; forth = λ all is. (all, refl, is) }

next_octet : (rest more : List ℕ) (c used : ℕ) → string_octet rest ≡ Some (c, used) → StringText rest more
    → (after : List ℕ) × (more ≡ c ∷ after) × StringText (drop used rest) after
unfolding string_octet
next_octet rest more c used here string_ends = absurd (let e = here in cc)
next_octet rest more c used here (string_goes t s d taken is after) =
    let same : ◌≡◌ {A = Option (ℕ × ℕ)} (Some (d, taken)) (Some (c, used)) = sym is ∙ here in
    let pair_is : ◌≡◌ {A = ℕ × ℕ} (d, taken) (c, used) = cc in
    let octet_is : d ≡ c = ap (λ p. p.0) pair_is in
    let taken_is : taken ≡ used = ap (λ p. p.1) pair_is in
    (s, ap (λ o. o ∷ s) octet_is, subst (λ n. StringText (drop n t) s) taken_is after)

pub string_next : (text string rest next new : List ℕ) (c used : ℕ) → ReadsString text string rest → string_octet rest ≡ Some (c, used)
    → next ≡ drop used rest → new ≡ string ++ c ∷ [] → ReadsString text new next
string_next text string rest next new c used so here next_is new_is = record {
  back = λ more is.
      let whole = so.back (c ∷ more) (string_goes rest more c used here (subst (λ t. StringText t more) next_is is)) in
      subst (StringText text) (sym (ap (λ s. s ++ more) new_is ∙ append_assoc string (c ∷ []) more)) whole;
  forth = λ all is.
      let found = so.forth all is in
      let after = next_octet rest found.0 c used here found.2 in (
        after.0,
        found.1 ∙ ap (λ m. string ++ m) after.1 ∙ sym (append_assoc string (c ∷ []) after.0) ∙ sym (ap (λ s. s ++ after.0) new_is),
        subst (λ t. StringText t after.0) (sym next_is) after.2,
      );
}

pub string_ended : (text string rest : List ℕ) → ReadsString text string rest → rest ≡ [] → StringText text string
string_ended text string rest so none = subst (StringText text) (append-nil string) (so.back [] (subst (λ t. StringText t []) (sym none) string_ends))

pub string_long : (text string rest : List ℕ) (c used : ℕ) → ReadsString text string rest → string_octet rest ≡ Some (c, used)
    → 255 < length string + 1 → (all : List ℕ) → StringText text all → 255 < length all
string_long text string rest c used so here long all is =
    let found = so.forth all is in
    let after = next_octet rest found.0 c used here found.2 in
    let size : length all ≡ length string + suc (length after.0) = ap length found.1 ∙ length-append string found.0
    ∙ ap (λ m. length string + length m) after.1 in
    omega (arith, size, long)

stuck_text : (rest more : List ℕ) → string_octet rest ≡ None → 0 < length rest → StringText rest more → ⊥
stuck_text rest more stuck some string_ends = omega (arith, some)
stuck_text rest more stuck some (string_goes t s d taken is after) = let e : ◌≡◌ {A = Option (ℕ × ℕ)} (Some (d, taken)) None = sym is ∙ stuck in cc

pub string_stuck : (text string rest : List ℕ) → ReadsString text string rest → string_octet rest ≡ None → 0 < length rest
    → (all : List ℕ) → StringText text all → 255 < length all
string_stuck text string rest so stuck some all is = let found = so.forth all is in absurd (stuck_text rest found.0 stuck some found.2)

pub ruleset string_steps = (common_steps, string_begins, string_next, string_ended, string_long, string_stuck)

pub one_string : (text a b : List ℕ) → StringText text a → StringText text b → a ≡ b
unfolding string_octet
one_string t a b string_ends string_ends = refl
one_string t a b string_ends (string_goes u s d taken is after) = absurd (let e = is in cc)
one_string t a b (string_goes u s d taken is after) other =
    let found = next_octet u b d taken is other in
    ap (λ more. d ∷ more) (one_string (drop taken u) s found.0 after found.2) ∙ sym found.1
