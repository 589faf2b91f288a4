-- Theorems about tokens.
use Rattle.std.proofs.Common.{ℕ, zero, suc, ◌+◌, ◌-◌, ◌≡◌, ◌∷◌, ◌++◌, [], List, refl, ap, ◌∙◌, length, take, drop, true, false, Bool}
use Rattle.std.proofs.{lemmas.List.drop-drop}
use Rattle.std.specs.{List.AllByRecursion, Prelude.{if◌then◌else◌}}
use Rattle.domain_octets.specs.Octets.{Octets}
use Rattle.domain_zonefile.specs.Lexemes.{lexeme_at, lexeme_len}
use Rattle.domain_zonefile.specs.Entries.{Placed, lexemes_from, lexemes, Piece, lexeme_tokens, open_after, ends_entry, tokens_in, tokens_at, IsOfFile}
use Rattle.domain_zonefile.specs.declared.lexeme.Lexeme.{Lexeme, TheVariants.{Gap, LineEnd, Open, Close, Word, Quoted, Bad}}

-- each lexeme has the octets of the file from its place on
abbrev AreOf : Octets → List Placed → Type 0
AreOf file [] = Unit {0}
AreOf file (x ∷ xs) = (x.text ≡ drop x.at file) × AreOf file xs

next_text : (file : Octets) (at c : ℕ) (text : Octets) → c ∷ text ≡ drop at file → text ≡ drop (at + 1) file
next_text file at c text h = ap (drop 1) h ∙ drop-drop 1 at file

lexemes_of_file : (file : Octets) (skip at : ℕ) (text : Octets) → text ≡ drop at file → AreOf file (lexemes_from skip at text)
unfolding lexemes_from
lexemes_of_file file skip at [] h = tt
lexemes_of_file file zero at (c ∷ text) h =
    (h, lexemes_of_file file (lexeme_len (lexeme_at (c ∷ text)) - 1) (at + 1) text (next_text file at c text h))
lexemes_of_file file (suc skip) at (c ∷ text) h = lexemes_of_file file skip (at + 1) text (next_text file at c text h)

front_of : (n : ℕ) (text : Octets) → take n text ≡ take (length (take n text)) text
front_of zero text = refl
front_of (suc n) [] = refl
front_of (suc n) (c ∷ text) = ap (λ (xs : Octets). c ∷ xs) (front_of n text)

token_of_file : (file : Octets) (at : ℕ) (x : Lexeme) (text : Octets) → text ≡ drop at file → AllByRecursion (IsOfFile file) (lexeme_tokens at x text)
token_of_file file at (Gap len) text h = tt
token_of_file file at LineEnd text h = tt
token_of_file file at Open text h = tt
token_of_file file at Close text h = tt
token_of_file file at (Word len) text h = (front_of len text ∙ ap (take (length (take len text))) h, tt)
token_of_file file at (Quoted len) text h =
    (front_of (len - 2) (drop 1 text) ∙ ap (take (length (take (len - 2) (drop 1 text)))) (ap (drop 1) h ∙ drop-drop 1 at file), tt)
token_of_file file at (Bad len error place) text h = tt

all_join : (P : Piece → Type 0) (xs ys : List Piece) → AllByRecursion P xs → AllByRecursion P ys → AllByRecursion P (xs ++ ys)
all_join P [] ys a b = b
all_join P (x ∷ xs) ys a b = (a.0, all_join P xs ys a.1 b)

all_either : (P : Piece → Type 0) (b : Bool) (ys : List Piece) → AllByRecursion P ys → AllByRecursion P (if b then [] else ys)
all_either P true ys a = tt
all_either P false ys a = a

tokens_in_file : (file : Octets) (brackets : List ℕ) (xs : List Placed) → AreOf file xs → AllByRecursion (IsOfFile file) (tokens_in brackets xs)
tokens_in_file file brackets [] are = tt
tokens_in_file file brackets (x ∷ xs) are =
    all_either (IsOfFile file) (ends_entry x.lexeme brackets) _
    (all_join (IsOfFile file) (lexeme_tokens x.at x.lexeme x.text) _ (token_of_file file x.at x.lexeme x.text are.0)
    (tokens_in_file file (open_after x.at x.lexeme brackets) xs are.1))

pub tokens_of_file : (file : Octets) (start : ℕ) → AllByRecursion (IsOfFile file) (tokens_at file start)
tokens_of_file file start = tokens_in_file file [] (lexemes file start) (lexemes_of_file file 0 start (drop start file) refl)
