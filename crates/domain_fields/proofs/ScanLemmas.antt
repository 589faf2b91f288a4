-- Data as text: tokens spell one list of values at most, and what was written is read back.
use Rattle.std.proofs.Common.{arith, ◌≡◌, ℕ, List, [], ◌++◌, sym, ap, ◌∙◌, Some, None, Option, lit≤, true, ◌∷◌, refl, subst, append_assoc}
use Rattle.std.{proofs.{lemmas.{Grind.common_steps, List.append-nil}, NetLemmas.Ipv4.read_ipv4_complete}, specs.Net.Grammar.IsDotted}
use Rattle.std.{proofs.lemmas.Bool.and_parts, specs.List.{AllByRecursion, join_with_byte}}
use Rattle.domain_names.{proofs.TextLemmas.one_name, specs.Text.{ScanFault, IsOfTokens}}
use Rattle.domain_base.{proofs.TextLemmas.{token_one_fault, name_excludes, name_one_fault, number_back, dotted_name_back, name_word}, specs.Scan.Grammar}
use Rattle.domain_fields.specs.Scan.{IsExact, FieldText, FieldTextFault, Scans, Refuses, Spells, is_printed_field, is_printed, printed_field, printed}
use Rattle.domain_fields.specs.Layout.{Field, octet, short, long, exactly, Value, rest, FieldFits, Layout, one, ◌▸◌, Values, Fits}
use Rattle.domain_fields.proofs.GrammarLemmas.{token_exact, both_exact}
use Rattle.domain_codecs.specs.{Codec.Decodes, declared.codec.Codec.Codec}
use Rattle.domain_octets.{specs.Text.{IsWord, HasNoBlank, word_if_any, words_of}, proofs.WordLemmas.{decimal_word, one_word, first_word, joined_words}}

-- ---- Fields of one token each: tokens spell one list of values at most, and none where they are refused.

field_excludes : (f : Field) (limit : Option ℕ) (fault : ScanFault) (text : List ℕ) (v : Value f)
    → FieldTextFault limit f fault text → FieldText f text v → IsOfTokens limit fault → ⊥
field_excludes octet limit fault text v why is own = why.none v is
field_excludes short limit fault text v why is own = why.none v is
field_excludes long limit fault text v why is own = why.none v is
field_excludes (exactly count) limit fault text v why is own = why.none v is.0
field_excludes f limit fault text v why is own = grind (arith, common_steps, name_excludes)

field_one_fault : (f : Field) (limit : Option ℕ) (x y : ScanFault) (text : List ℕ) → FieldTextFault limit f x text → FieldTextFault limit f y text → x ≡ y
field_one_fault (exactly count) limit x y text p q = p.said ∙ sym q.said
field_one_fault f limit x y text p q = grind (arith, common_steps, name_one_fault)

-- one field of one token is refused for one reason
pub one_field_one_fault : (f : Field) (limit : Option ℕ) (old m n : List (List ℕ)) (x y : ScanFault)
    → Refuses limit (one f) old m x → Refuses limit (one f) old n y → (x ≡ y) × (m ≡ n)
one_field_one_fault f limit old m n x y p q = grind (arith, common_steps, token_one_fault, field_one_fault)

-- a text is one address at most
one_address : (text xs ys : List ℕ) → IsDotted text xs → IsDotted text ys → xs ≡ ys
one_address text xs ys x y = grind (arith, common_steps, (read_ipv4_complete text xs [] x (lit≤ tt)), (read_ipv4_complete text ys [] y (lit≤ tt)))

field_once : (f : Field) (text : List ℕ) (v w : Value f) → FieldText f text v → FieldText f text w → v ≡ w
field_once (exactly count) text v w x y = one_address text v w x.0 y.0
field_once f text v w x y = grind (arith, common_steps, one_name)

-- fields of one token each
pub fields_exact : (limit : Option ℕ) (l : Layout) → IsExact (IsOfTokens limit) (Scans l) (Refuses limit l)
fields_exact limit (one f) =
    token_exact (IsOfTokens limit) (FieldText f) (FieldTextFault limit f) (field_once f) (field_excludes f limit)
    (λ x y text p q own also. field_one_fault f limit x y text p q)
fields_exact limit (a ▸ b) = both_exact (IsOfTokens limit) (Scans a) (Scans b) (Refuses limit a) (Refuses limit b) (fields_exact limit a) (fields_exact limit b)

-- ---- what fields are written as is read back

field_back : (f : Field) (v : Value f) → is_printed_field f ≡ true → FieldFits f v → FieldText f (printed_field f v) v
field_back octet n is fits = number_back 8 n fits (omega (arith, fits))
field_back short n is fits = number_back 16 n fits (omega (arith, fits))
field_back long n is fits = number_back 32 n fits (omega (arith, fits))
field_back f v is fits = grind (arith, common_steps, dotted_name_back)

pub fields_back : (l : Layout) (v : Values l) (after : List (List ℕ)) → is_printed l ≡ true → Fits l v → Scans l (printed l v ++ after) v after
fields_back (one f) v after is fits = record { token = printed_field f v; first = refl; holds = field_back f v is fits }
fields_back (a ▸ b) v after is fits =
    let parts = and_parts (is_printed a) (is_printed b) is in (
      printed b v.1 ++ after,
      subst (λ tokens. Scans a tokens v.0 (printed b v.1 ++ after))
          (sym (append_assoc (printed a v.0) (printed b v.1) after)) (fields_back a v.0 (printed b v.1 ++ after) parts.0 fits.0),
      fields_back b v.1 after parts.1 fits.1,
    )

-- fields that are all that the tokens are
pub fields_alone : (l : Layout) (v : Values l) (tokens : List (List ℕ)) → tokens ≡ printed l v → is_printed l ≡ true → Fits l v → Scans l tokens v []
fields_alone l v tokens are is fits = grind (arith, common_steps, fields_back, (append-nil (printed l v)), (fields_back l v))

field_word : (f : Field) (v : Value f) → is_printed_field f ≡ true → FieldFits f v → IsWord (printed_field f v)
field_word rest v is fits = absurd (let e = is in cc)
field_word f v is fits = grind (arith, common_steps, decimal_word, name_word)

words-append : (a b : List (List ℕ)) → AllByRecursion IsWord a → AllByRecursion IsWord b → AllByRecursion IsWord (a ++ b)
words-append [] b words more = more
words-append (word ∷ a) b words more = (words.0, words-append a b words.1 more)

pub fields_words : (l : Layout) (v : Values l) → is_printed l ≡ true → Fits l v → AllByRecursion IsWord (printed l v)
fields_words (one f) v is fits = (field_word f v is fits, tt)
fields_words (a ▸ b) v is fits =
    let parts = and_parts (is_printed a) (is_printed b) is in
    words-append _ _ (fields_words a v.0 parts.0 fits.0) (fields_words b v.1 parts.1 fits.1)

-- fields, and then octets in one word or none
pub entry_back : {V : Type 0} (G : Grammar V) (codec : Codec) (tokens : List (List ℕ)) (v : V) (text octets : List ℕ)
    → G tokens v (word_if_any text) → Decodes codec text octets → Spells G codec tokens v octets
entry_back G codec tokens v text octets fields decoded = grind (arith, common_steps)

-- ---- lines, in which a space stands between words

pub fields_line : (l : Layout) (v : Values l) → is_printed l ≡ true → Fits l v → Scans l (words_of (join_with_byte 32 (printed l v))) v []
fields_line l v is fits = fields_alone l v _ (joined_words (printed l v) (fields_words l v is fits)) is fits

-- words, and then a text in one word or none
pub words_and_text : (words : List (List ℕ)) (text : List ℕ) → AllByRecursion IsWord words → HasNoBlank text
    → words_of (join_with_byte 32 (words ++ text ∷ [])) ≡ words ++ word_if_any text
words_and_text [] [] all plain = joined_words [] tt
words_and_text [] (c ∷ text) all plain = one_word (c ∷ text) (record { some = λ none. cc; unbroken = plain })
words_and_text (word ∷ []) text all plain = first_word word text all.0 ∙ ap (λ l. word ∷ l) (words_and_text [] text tt plain)
words_and_text (word ∷ next ∷ words) text all plain = first_word word _ all.0 ∙ ap (λ l. word ∷ l) (words_and_text (next ∷ words) text all.1 plain)

pub entry_line : {V : Type 0} (G : Grammar V) (codec : Codec) (words : List (List ℕ)) (v : V) (text octets : List ℕ) → AllByRecursion IsWord words
    → HasNoBlank text → G (words ++ word_if_any text) v (word_if_any text) → Decodes codec text octets
    → Spells G codec (words_of (join_with_byte 32 (words ++ text ∷ []))) v octets
entry_line G codec words v text octets all plain fields decoded = grind (arith, common_steps, words_and_text, entry_back)

pub fields_entry_line : (l : Layout) (codec : Codec) (v : Values l) (text octets : List ℕ) → is_printed l ≡ true → Fits l v → HasNoBlank text
    → Decodes codec text octets → Spells (Scans l) codec (words_of (join_with_byte 32 (printed l v ++ text ∷ []))) v octets
fields_entry_line l codec v text octets is fits plain decoded = grind (arith, common_steps, entry_line, fields_words, fields_back)
