-- Tokens and their places, kept in two lists.
use Rattle.std.proofs.Common.{arith, rules, ℕ, ◌≡◌, ◌∷◌, ◌++◌, [], List, refl, ap, length, map, true, false}
use Rattle.std.proofs.{lemmas.Grind.common_steps}
use Rattle.std.specs.Prelude.{Result, Ok, Err, is_ok, is_err, ◌==◌, vec_len}
use Rattle.std.specs.declared.{vec.Vec.Vec, alloc.Global.Global}
use Rattle.domain_types.specs.declared.token.Token.{Token}
use Rattle.domain_zonefile.specs.{Entries.Piece, Tokens.{pieces_of, piece_view, has_no_token}}
use Rattle.domain_types.specs.Reading.{token_text}

pub pieces_push : (tokens : List Token) (places : List ℕ) (token : Token) (place : ℕ) → length tokens ≡ length places
    → pieces_of (tokens ++ token ∷ []) (places ++ place ∷ [])
    ≡ pieces_of tokens places ++ record { at = place; octets = token.octets.now; is_quoted = token.is_quoted } ∷ []
pieces_push [] [] token place h = refl
pieces_push [] (p ∷ places) token place h = grind (arith, common_steps)
pieces_push (t ∷ tokens) [] token place h = grind (arith, common_steps)
pieces_push (t ∷ tokens) (p ∷ places) token place h =
    ap (λ (ps : List Piece). record { at = p; octets = t.octets.now; is_quoted = t.is_quoted } ∷ ps) (pieces_push tokens places token place (omega arith))

pub pieces_places : (tokens : List Token) (places : List ℕ) → length tokens ≡ length places → places ≡ map (λ (p : Piece). p.at) (pieces_of tokens places)
pieces_places [] [] h = refl
pieces_places [] (p ∷ places) h = grind (arith, common_steps)
pieces_places (t ∷ tokens) [] h = grind (arith, common_steps)
pieces_places (t ∷ tokens) (p ∷ places) h = ap (λ ps. p ∷ ps) (pieces_places tokens places (omega arith))

pub pieces_tokens : (tokens : List Token) (places : List ℕ) → length tokens ≡ length places → map token_text tokens ≡ map piece_view (pieces_of tokens places)
pieces_tokens [] [] h = refl
pieces_tokens [] (p ∷ places) h = grind (arith, common_steps)
pieces_tokens (t ∷ tokens) [] h = grind (arith, common_steps)
pieces_tokens (t ∷ tokens) (p ∷ places) h = ap (λ xs. token_text t ∷ xs) (pieces_tokens tokens places (omega arith))

pub is_ok_there : {X E : Type 0} (result : Result X E) → false ≡ is_err result → is_ok result ≡ true
is_ok_there (Ok x) h = refl
is_ok_there (Err e) h = cc

none_is_empty : (tokens : List Token) (places : List ℕ) → length tokens ≡ length places → (length tokens == 0) ≡ has_no_token (pieces_of tokens places)
none_is_empty [] places h = refl
none_is_empty (t ∷ tokens) [] h = grind (arith, common_steps)
none_is_empty (t ∷ tokens) (p ∷ places) h = grind (arith, common_steps)

pub pieces_empty : (tokens : Vec Token Global) (places : List ℕ) → length tokens.items ≡ length places
    → (vec_len tokens == 0) ≡ has_no_token (pieces_of tokens.items places)
pieces_empty tokens places h = let len : vec_len tokens ≡ length tokens.items = search rules in rw len (none_is_empty tokens.items places h)
