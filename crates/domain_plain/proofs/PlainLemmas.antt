-- What data are written as is read back, and generic text that is refused.
use Rattle.std.proofs.Common.{ℕ, refl, sym, ◌∙◌, Option, ◌≤◌, List, [], length, length-append, arith, ◌≡◌, ◌≢◌, ◌<◌, false, All, ◌∷◌, ◌++◌, ap, subst}
use Rattle.std.{proofs.lemmas.{Grind.common_steps, Bool.Decides.nat_tests, List.append-nil}, specs.{Prelude.◌==◌, Fmt.decimal, List.AllByRecursion}}
use Rattle.std.specs.Net.Text.{ipv4_text, dotted_text}
use Rattle.domain_codecs.{specs.{declared.codec.Codec.TheVariants.Base16, Codec.Decodes}, proofs.{CodecBackLemmas.upper_back, CodecLemmas.upper_hex_word}}
use Rattle.domain_base.{specs.Scan.{OneToken, IsNumber, IsNoNumber, RefusesToken}, proofs.TextLemmas.number_back}
use Rattle.domain_names.specs.Text.{IsOfTokens}
use Rattle.domain_fields.{specs.Scan.{RefusesBoth, IsExact, IsExactEntry, Scans}, proofs.GrammarLemmas.{token_exact, both_exact, same_octets, entry_refused}}
use Rattle.domain_fields.{proofs.{GrammarLemmas.entry_refused_once, ExactLemmas.parses_back}, specs.Layout.{Values, Begins, ParsesBack, octets_of}}
use Rattle.domain_fields.proofs.ScanLemmas.{entry_line}
use Rattle.domain_plain.specs.Plain.{IsMark, generic_head, GenericText, GenericFault, IsNoMark, generic_text, generic_mark, unknown_layout, a_layout}
use Rattle.domain_octets.{specs.{Octets.AreOctets, Text.{words_of, IsWord}}, proofs.WordLemmas.{one_word, decimal_word, joined_words}}
use Rattle.hex.specs.Hex.{encode_upper, encode_with}

-- ---- generic text that is refused

head_exact : (limit : Option ℕ) → IsExact (IsOfTokens limit) generic_head (RefusesBoth (OneToken IsMark) (RefusesToken IsNoMark) (RefusesToken (IsNoNumber 16)))
head_exact limit = both_exact _ _ _ _ _
    (token_exact _ IsMark IsNoMark (λ text v w x y. refl) (λ fault text v why is own. why.other is) (λ x y text p q own also. p.said ∙ sym q.said))
    (token_exact _ (IsNumber 16) (IsNoNumber 16) (λ text m n x y. x.value ∙ sym y.value) (λ fault text n why is own. why.none n is)
    (λ x y text p q own also. p.said ∙ sym q.said))

-- generic text spells one list of octets at most, and what is refused is none, for one reason
pub generic_exact : (limit : Option ℕ) → IsExactEntry (IsOfTokens limit) GenericText (GenericFault limit)
generic_exact limit = record {
  once = λ old x y p q. same_octets generic_head (head_exact limit).once Base16 old _ _ x y p q;
  none = λ old new fault octets why own is.
      entry_refused limit generic_head _ (head_exact limit) _ _ Base16 old new fault own _ octets is (λ other. other refl) why;
  one_fault = λ old m n x y p q own also. entry_refused_once limit generic_head _ (head_exact limit) _ _ Base16 old m n x y p q own also;
}

-- ---- what was composed parses back

pub short_data_back : (octets : List ℕ) → AreOctets octets → length octets ≤ 65535 → ParsesBack unknown_layout (tt, octets)
unfolding octets_of
short_data_back octets small fits = parses_back unknown_layout (tt, octets) refl (tt, small) (omega (arith, length-append octets []), refl)

-- data that were read have no more octets than a record can hold
pub limit_of_unknown : (octets : List ℕ) (v : Values unknown_layout) (after : List ℕ) → Begins unknown_layout octets v after → length v.1 ≤ 65535
unfolding octets_of
limit_of_unknown octets v after begins = omega (arith, begins.ends.0, length-append v.1 after)

-- ---- what data are written as is read back

some_after : (front text : List ℕ) → text ≢ [] → front ++ text ≢ []
some_after [] text some = some
some_after (c ∷ front) text some = λ none. cc

-- ---- addresses

dotted_word : (w x y z : ℕ) → w < 256 → x < 256 → y < 256 → z < 256 → IsWord (dotted_text w x y z)
dotted_word w x y z w_small x_small y_small z_small = grind (arith, common_steps, decimal_word, some_after)

four_back : (w x y z : ℕ) → w < 256 → x < 256 → y < 256 → z < 256 → Scans a_layout (words_of (dotted_text w x y z)) (w ∷ x ∷ y ∷ z ∷ []) []
four_back w x y z w_small x_small y_small z_small = grind (arith, common_steps, one_word, dotted_word)

pub a_back : (octets : List ℕ) → length octets ≡ 4 → AreOctets octets → Scans a_layout (words_of (ipv4_text octets)) octets []
a_back (w ∷ x ∷ y ∷ z ∷ []) four small =
    four_back w x y z (small 0 0 (omega arith)) (small 1 0 (omega arith)) (small 2 0 (omega arith)) (small 3 0 (omega arith))
a_back _ four small = absurd (omega (arith, four))

-- ---- the generic form

mark_word : IsWord generic_mark
mark_word = record { some = λ none. cc; unbroken = (refl, (refl, tt)) }

none_written : encode_upper [] ≡ []
unfolding encode_with
none_written = refl

module _ (octets : List ℕ) (fits : length octets ≤ 65535) where
  head_words : AllByRecursion IsWord (generic_mark ∷ decimal (length octets) ∷ [])
  head_words = (mark_word, (decimal_word (length octets) (omega (arith, fits)), tt))

  head_back : (after : List (List ℕ)) → generic_head (generic_mark ∷ decimal (length octets) ∷ after) (tt, length octets) after
  head_back after = (
    decimal (length octets) ∷ after,
    record { token = generic_mark; first = refl; holds = refl },
    record { token = decimal (length octets); first = refl; holds = number_back 16 _ (omega (arith, fits)) (omega (arith, fits)) },
  )

pub generic_back : (octets : List ℕ) → All (λ octet. octet < 256) octets → length octets ≤ 65535 → GenericText (words_of (generic_text octets)) octets
generic_back [] small fits =
    let words = ap words_of (append-nil (generic_mark ++ 32 ∷ decimal 0)) ∙ joined_words (generic_mark ∷ decimal 0 ∷ []) (head_words [] fits) in
    subst (λ tokens. GenericText tokens []) (sym words)
    (record { entry = []; fields = head_back [] fits []; decoded = subst (λ t. Decodes Base16 t []) none_written (upper_back [] small) })
generic_back (octet ∷ octets) small fits =
    let text = encode_upper (octet ∷ octets) in
    let some : (length (octet ∷ octets) == 0) ≡ false = grind (arith, nat_tests) in
    let word = upper_hex_word (octet ∷ octets) (λ none. cc) in
    rw some (entry_line generic_head Base16 (generic_mark ∷ decimal (length (octet ∷ octets)) ∷ []) _ text (octet ∷ octets)
    (head_words (octet ∷ octets) fits) word.unbroken (head_back (octet ∷ octets) fits _) (upper_back (octet ∷ octets) small))
