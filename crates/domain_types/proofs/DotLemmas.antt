-- Whether a text ends in a dot that no backslash escapes: its last two octets often tell.
use Rattle.std.proofs.Common.{◌≡◌, ◌≢◌, ℕ, ◌+◌, ◌-◌, List, [], ◌∷◌, ◌++◌, length, get_or, take, drop, refl, sym, ap, ◌∙◌, arith, add-one, drop-cons}
use Rattle.std.proofs.lemmas.{Bool.Decides.nat_tests, Grind.common_steps, List.take-append-drop}
use Rattle.std.specs.Prelude.{◌==◌, fold}
use Rattle.domain_types.specs.Spelling.{ends_in_dot, going_on, is_after_dot}
use Rattle.domain_types.specs.declared.spell.Going.{Going, TheVariants.{Inside, Escaped, AfterDot}}

fold_last : (g : Going) (front : List ℕ) (c : ℕ) → fold going_on g (front ++ c ∷ []) ≡ going_on (fold going_on g front) c
fold_last g [] c = refl
fold_last g (x ∷ front) c = fold_last (going_on g x) front c

-- an octet that is no backslash does not escape the one after it
free_after : (g : Going) (b c : ℕ) → b ≢ 92 → is_after_dot (going_on (going_on g b) c) ≡ (c == 46)
free_after g b c other = grind (arith, nat_tests, common_steps)

last_two : (text : List ℕ) (n : ℕ) → n + 2 ≡ length text → text ≡ (take n text ++ get_or text n 0 ∷ []) ++ get_or text (n + 1) 0 ∷ []
last_two text n size = grind (arith, common_steps)

-- a dot ends a text, where no backslash stands before its last octet
pub last_dot : (text : List ℕ) (n : ℕ) → n + 2 ≡ length text → get_or text n 0 ≢ 92 → ends_in_dot text ≡ (get_or text (n + 1) 0 == 46)
last_dot text n size other =
    let b = get_or text n 0 in
    let c = get_or text (n + 1) 0 in
    ap ends_in_dot (last_two text n size)
    ∙ ap is_after_dot (fold_last Inside (take n text ++ b ∷ []) c ∙ ap (λ g. going_on g c) (fold_last Inside (take n text) b))
    ∙ free_after (fold going_on Inside (take n text)) b c other
