-- Tokens of locations, one after another.
use Rattle.std.proofs.Common.{◌≡◌, ℕ, zero, suc, ◌+◌, ◌-◌, ◌<◌, ◌≤◌, List, [], ◌∷◌, length, get_or, take, drop, map, refl, sym, ap, ◌∙◌, arith}
use Rattle.std.proofs.lemmas.{Grind.common_steps, List.length-map}
use Rattle.std.proofs.Math.Seq.{drop-nil}
use Rattle.domain_types.specs.declared.token.Token.{Token}
use Rattle.domain_types.specs.declared.token.DataFaultKind.TheVariants as kinds
use Rattle.domain_types.specs.declared.field.Tail.TheVariants as tails
use Rattle.domain_types.specs.Reading.{TokenText, token_text, FirstToken, FirstTokenFault, LocationTokenFault}
use Rattle.domain_types.proofs.ReadLemmas.{first_token, first_parts, tokens_left}

drop_after : (tokens : List TokenText) (m n : ℕ) → drop n (drop m tokens) ≡ drop (m + n) tokens
drop_after tokens zero n = ap (λ k. drop k tokens) (let e : n ≡ 0 + n = omega arith in e)
drop_after [] (suc m) n = drop-nil n ∙ sym (drop-nil (suc m + n))
drop_after (t ∷ tokens) (suc m) n =
    drop_after tokens m n ∙ ap (λ k. drop k (t ∷ tokens)) (let e : suc (m + n) ≡ suc m + n = omega arith in e)

-- what is left of the tokens after some of them
pub left_is : (tokens : List Token) (m n : ℕ) → drop n (map token_text (take (length tokens - m) (drop m tokens))) ≡ drop (m + n) (map token_text tokens)
left_is tokens m n = ap (drop n) (tokens_left tokens m) ∙ drop_after (map token_text tokens) m n

-- the first token, with what it means
pub first_is : (P : TokenText → Type 0) (tokens : List Token) → 0 < length tokens → P (token_text (get_or tokens 0 first_token))
    → FirstToken P (map token_text tokens) (drop 1 (map token_text tokens))
first_is P tokens some is = record { token = token_text (get_or tokens 0 first_token); parts = first_parts tokens some; holds = is }

-- a first token without a meaning
pub first_is_none : (Spells : TokenText → Type 0) (tokens : List Token) → 0 < length tokens
    → (Spells (token_text (get_or tokens 0 first_token)) → ⊥)
    → FirstTokenFault (LocationTokenFault Spells) (map token_text tokens) (kinds.NotTail tails.Coordinates)
first_is_none Spells [] some none = absurd (omega (arith, some))
first_is_none Spells (t ∷ tokens) some none = (refl, none)

-- how many tokens are left
pub left_size : (tokens : List Token) (used : ℕ) → used ≤ length tokens → length (map token_text tokens) ≡ used + length (drop used (map token_text tokens))
left_size tokens used inside = grind (arith, common_steps, (length-map tokens token_text), inside)
