-- The words of a text, and the tokens that are put into one line.
use Rattle.std.proofs.Common.{ℕ, suc, ◌<◌, List, get_or, Fits, w8, arith, ◌≡◌, [], ◌∷◌, ◌++◌, Bool, true, false, refl, ap, ◌≤◌, length, take, drop, Some, None}
use Rattle.std.proofs.{Common.{sym, ◌∙◌, ◌+◌, Bor, map, inl, inr}, lemmas.{List.{append-nil, append_assoc, Elements.All-from_get_or}, Fmt.decimal_is_IsNumeral}}
use Rattle.std.{proofs.lemmas.{Grind.common_steps, Bool.{cases_Bool, Decides.nat_tests}, Str.IsCharBoundary-after_ascii}, specs.Prelude.{All, ◌^◌}}
use Rattle.std.specs.{List.{join_with_byte, AllByRecursion}, Fmt.decimal, Str.Parse.AllDigits}
use Rattle.domain_octets.specs.Text.{is_blank, word_if_any, words_after, words_of, HasNoBlank, IsWord}
use Rattle.memchr.specs.Find.{IsFirstByte}
use Rattle.smallvec.specs.SmallVec.{SmallVec, HasRoomFor}

-- ---- octets in slices

-- what a slice holds are octets
pub octets_from_type : (xs : List ℕ) → ((i : ℕ) → Fits w8 (get_or xs i 0)) → All (λ octet. octet < 256) xs
octets_from_type xs fits = All-from_get_or (λ octet. octet < 256) xs 0 (λ i below. let h = fits i in omega (arith, h))

-- ---- tokens that are put into one line

-- what these tokens add to a line, of which it is told whether they are the first
abbrev pub added : Bool → List (List ℕ) → List ℕ
added first [] = []
added true (text ∷ texts) = text ++ added false texts
added false (text ∷ texts) = 32 ∷ text ++ added false texts

pub from_nothing : (texts : List (List ℕ)) → added true texts ≡ join_with_byte 32 texts
from_nothing [] = refl
from_nothing (text ∷ []) = append-nil text
from_nothing (text ∷ next ∷ texts) = ap (λ l. text ++ 32 ∷ l) (from_nothing (next ∷ texts))

-- ---- the words of a text

-- a blank ends a word, so that the words behind it are those of a text by itself
words_apart : (word front : List ℕ) (blank : ℕ) (text : List ℕ) → is_blank blank ≡ true
    → words_after word (front ++ blank ∷ text) ≡ words_after word front ++ words_of text
unfolding words_after
words_apart word [] blank text is = rw is refl
words_apart word (c ∷ front) blank text is = elim (cases_Bool (is_blank c)) [
  | inl ends ↦ rw ends (ap (λ l. word_if_any word ++ l) (words_apart [] front blank text is)
      ∙ sym (append_assoc (word_if_any word) (words_after [] front) (words_of text)))
  | inr goes ↦ rw goes (words_apart (word ++ c ∷ []) front blank text is)
]

-- a word that has begun goes on
word_goes_on : (word text : List ℕ) → HasNoBlank text → words_after word text ≡ word_if_any (word ++ text)
unfolding words_after
word_goes_on word [] plain = ap word_if_any (sym (append-nil word))
word_goes_on word (c ∷ text) plain = rw plain.0 (word_goes_on (word ++ c ∷ []) text plain.1 ∙ ap word_if_any (append_assoc word (c ∷ []) text))

-- a text that is one word
pub one_word : (text : List ℕ) → IsWord text → words_of text ≡ text ∷ []
one_word [] word = absurd (word.some refl)
one_word (c ∷ text) word = word_goes_on [] (c ∷ text) word.unbroken

-- a word, and what stands after a space
pub first_word : (text rest : List ℕ) → IsWord text → words_of (text ++ 32 ∷ rest) ≡ text ∷ words_of rest
first_word text rest word = words_apart [] text 32 rest refl ∙ ap (λ l. l ++ words_of rest) (one_word text word)

-- one word more, after a space
pub next_word : (front text : List ℕ) → IsWord text → words_of ((front ++ 32 ∷ []) ++ text) ≡ words_of front ++ text ∷ []
next_word front text word = rw append_assoc (words_apart [] front 32 text refl ∙ ap (λ l. words_of front ++ l) (one_word text word))

no_words : words_of [] ≡ []
unfolding words_after
no_words = refl

-- a space at the end
pub last_space : (front : List ℕ) → words_of (front ++ 32 ∷ []) ≡ words_of front
last_space front = words_apart [] front 32 [] refl ∙ ap (λ l. words_of front ++ l) no_words ∙ append-nil (words_of front)

pub joined_words : (words : List (List ℕ)) → AllByRecursion IsWord words → words_of (join_with_byte 32 words) ≡ words
joined_words [] all = no_words
joined_words (word ∷ []) all = one_word word all.0
joined_words (word ∷ next ∷ words) all = first_word word (join_with_byte 32 (next ∷ words)) all.0 ∙ ap (λ l. word ∷ l) (joined_words (next ∷ words) all.1)

-- ---- texts without blanks

pub no_blank-append : (a b : List ℕ) → HasNoBlank a → HasNoBlank b → HasNoBlank (a ++ b)
no_blank-append [] b plain more = more
no_blank-append (c ∷ a) b plain more = (plain.0, no_blank-append a b plain.1 more)

digits_plain : (ds : List ℕ) → AllDigits 10 ds → HasNoBlank ds
digits_plain [] all = tt
digits_plain (d ∷ ds) all = (grind (arith, nat_tests, all.0), digits_plain ds all.1)

pub decimal_word : (n : ℕ) → n < 2 ^ 64 → IsWord (decimal n)
decimal_word n small =
    let numeral = (decimal_is_IsNumeral n small).0 in
    record { some = λ none. omega (arith, numeral.0, ap length none); unbroken = digits_plain (decimal n) numeral.1 }

-- ---- the words of a line, one after another

abbrev pub texts : SmallVec (Bor (List ℕ)) → List (List ℕ)
texts words = map (λ w. w.now) words.items

no_blank_at : (text : List ℕ) → ((k : ℕ) → k < length text → is_blank (get_or text k 0) ≡ true → ⊥) → HasNoBlank text
no_blank_at [] none = tt
no_blank_at (c ∷ text) none = (grind (arith, nat_tests, (none 0)), no_blank_at text (λ k below. none (suc k) (omega arith)))

-- the first blank ends the first word
pub blank_parts : (text : List ℕ) (end : ℕ) → IsFirstByte is_blank text (Some end)
    → words_of text ≡ word_if_any (take end text) ++ words_of (drop (end + 1) text)
blank_parts text end (none, is) =
    let front = take end text in
    let within = none.high in
    let parts = words_apart [] front (get_or text end 0) (drop (end + 1) text) is in
    let plain = no_blank_at front (λ k below. grind (arith, common_steps, (none.before k))) in
    grind (arith, common_steps, parts, (word_goes_on [] front plain))

pub one_part : (text : List ℕ) → IsFirstByte is_blank text None → words_of text ≡ word_if_any text
one_part text none = word_goes_on [] text (no_blank_at text (λ k below. none k (omega arith) below))

-- where there was room for all, there is room for the next
pub room_for : (old words : SmallVec (Bor (List ℕ))) (all left first behind : List (List ℕ)) → texts words ++ left ≡ texts old ++ all
    → left ≡ first ++ behind → old.capacity ≤ words.capacity → HasRoomFor old (length all) → HasRoomFor words (length first)
room_for old words all left first behind same parts grown room = grind (arith, common_steps, (ap length same), (ap length parts))

pub ruleset pushing_steps = (common_steps, blank_parts, one_part, room_for, IsCharBoundary-after_ascii)

-- ---- the first word

-- it begins where a blank does not stand
word_begun : (c : ℕ) (word text : List ℕ) → (more : List ℕ) × (words : List (List ℕ)) × (words_after (c ∷ word) text ≡ (c ∷ more) ∷ words)
unfolding words_after
word_begun c word [] = (word, [], refl)
word_begun c word (next ∷ text) = elim (cases_Bool (is_blank next)) [
  | inl ends ↦ rw ends (word, words_of text, refl)
  | inr goes ↦ rw goes (word_begun c (word ++ next ∷ []) text)
]

pub first_begins : (c : ℕ) (text : List ℕ) → is_blank c ≡ false → (more : List ℕ) × (words : List (List ℕ)) × (words_of (c ∷ text) ≡ (c ∷ more) ∷ words)
unfolding words_after
first_begins c text other = rw other (word_begun c [] text)

pub blank_first : (c : ℕ) (text : List ℕ) → is_blank c ≡ true → words_of (c ∷ text) ≡ words_of text
unfolding words_after
blank_first c text is = rw is refl
