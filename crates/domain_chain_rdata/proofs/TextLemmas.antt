-- The data of chains: what is written is read back, and texts are refused for one reason.
use Rattle.std.proofs.Common.{◌≡◌, ◌≢◌, ℕ, ◌+◌, ◌<◌, true, List, [], ◌∷◌, length, arith, Option, subst, ◌++◌, map, refl, sym, ap, ◌∙◌, append_assoc}
use Rattle.std.{proofs.lemmas.{Bool.Decides.nat_tests, Fmt.decimal_digit, Grind.common_steps}, specs.{Prelude.{◌==◌, codes}, Fmt.decimal}}
use Rattle.domain_codecs.{specs.{declared.codec.Codec.TheVariants.Base32Hex, Base32.base32_upper}, proofs.Base32Lemmas.upper_reads_back}
use Rattle.domain_codecs.proofs.CodecLemmas.{upper_base32_word}
use Rattle.domain_names.{specs.Text.{ScanFault, IsOfTokens, NameTextFault, no_memory, NameText, name_text}, proofs.TextLemmas.one_name}
use Rattle.domain_base.{specs.{Scan.{OneToken, RefusesToken}, Numbers.type_text}, proofs.TextLemmas.{name_excludes, name_one_fault, dotted_name_back}}
use Rattle.domain_base.proofs.TextLemmas.{name_word}
use Rattle.domain_bitmap.specs.Text.{CountedFault, SaltTokenFault, SaltText, OwnerHashText, salt_text, RefusesTypes, is_among, types_text, spaced_types}
use Rattle.domain_bitmap.proofs.TextLemmas.{spelled_once, are_types, texts_spell, types_after, spaced_words, bitmap_back, salt_back, salt_word, types_refused}
use Rattle.domain_bitmap.proofs.TextLemmas.{types_one_fault, salt_once, salt_excludes, salt_one_fault, hash_once, hash_excludes, counted_one_fault}
use Rattle.domain_bitmap.specs.{Bitmap.bitmap_octets, Blocks.{IsBitmap, IsShortest, types_of}}
use Rattle.domain_fields.{specs.{Layout.{Values, Fits, ParsesBack}, Scan.IsExact}, proofs.{ScanLemmas.{fields_exact, fields_back}, GrammarLemmas.token_exact}}
use Rattle.domain_fields.proofs.{GrammarLemmas.{both_exact, exact_for}, ExactLemmas.parses_back}
use Rattle.domain_chain_rdata.specs.Text.{BitmapText, NsecText, IsOfNsec, RefusesNsec, Nsec3paramText, RefusesNsec3param, hash_numbers_text, nsec3param_text}
use Rattle.domain_chain_rdata.specs.{Text.{HashText, RefusesHash, Nsec3Text, RefusesNsec3, params_before_hash, nsec3_text, number_pieces}, Rdata.hash_numbers}
use Rattle.domain_chain_rdata.specs.Rdata.{nsec_layout, nsec3param_layout, hash_fields, nsec3_layout}
use Rattle.domain_octets.{specs.Text.{words_of, PieceText, token, comment}, proofs.WordLemmas.{one_word, next_word, decimal_word}}

-- ---- The texts of NSEC and NSEC3 data and of the parameters of hashes: tokens spell one at most, and are refused for one reason, spelling none.

module _ (limit : Option ℕ) where
  abbrev IsOwn : ScanFault → Type 0
  IsOwn = IsOfTokens limit

  known : (fault : ScanFault) → IsOwn fault → fault ≢ no_memory
  known fault own same = subst IsOwn same own

  name_exact : IsExact IsOwn (OneToken NameText) (RefusesToken (NameTextFault limit))
  name_exact =
      token_exact IsOwn NameText _ (λ text v w x y. one_name text v w x y) (name_excludes limit) (λ x y text p q own also. name_one_fault limit x y text p q)

  -- a bitmap at last
  bitmap_exact : IsExact IsOwn BitmapText (RefusesTypes limit)
  bitmap_exact = record {
    once = grind (arith, common_steps, spelled_once);
    apart = λ old new after v fault why is own. types_refused limit _ old new is.types fault why is.spelled own;
    one_fault = λ old m n x y p q own also. types_one_fault limit _ _ old m n x y p q own also;
  }

  salt_exact : IsExact IsOwn (OneToken SaltText) (RefusesToken (SaltTokenFault limit))
  salt_exact = token_exact IsOwn SaltText _ salt_once (salt_excludes limit)
      (λ x y text p q own also. salt_one_fault limit x y text p q (known x own) (known y also))

  hash_exact : IsExact IsOwn (OneToken OwnerHashText) (RefusesToken (CountedFault Base32Hex (codes "illegal owner name hash") limit))
  hash_exact = token_exact IsOwn OwnerHashText _ hash_once (hash_excludes limit)
      (λ x y text p q own also. counted_one_fault Base32Hex _ limit x y text p q (known x own) (known y also))

  pub params_exact : IsExact IsOwn Nsec3paramText (RefusesNsec3param limit)
  params_exact = both_exact IsOwn _ _ _ _ (fields_exact limit hash_numbers) salt_exact

  pub hashes_exact : IsExact IsOwn HashText (RefusesHash limit)
  hashes_exact = both_exact IsOwn _ _ _ _ params_exact hash_exact

  pub nsec3_exact : IsExact IsOwn Nsec3Text (RefusesNsec3 limit)
  nsec3_exact = both_exact IsOwn _ _ _ _ hashes_exact bitmap_exact

-- over builders of names and of bitmaps
pub nsec_exact : (names bitmaps : Option ℕ) → IsExact (IsOfNsec names bitmaps) NsecText (RefusesNsec names bitmaps)
nsec_exact names bitmaps =
    both_exact (IsOfNsec names bitmaps) _ _ _ _ (exact_for _ _ (λ fault own. own.0) (name_exact names))
    (exact_for _ _ (λ fault own. own.1) (bitmap_exact bitmaps))

-- parameters of SHA-1 without iterations and salt, with flags of one digit
pub usual_text : (numbers : Values hash_numbers) (salt : List ℕ) (flags : ℕ) → flags < 10 → numbers.0 ≡ 1 → numbers.1.0 ≡ flags
    → numbers.1.1 ≡ 0 → true ≡ length salt == 0
    → 49 ∷ 32 ∷ (48 + flags) ∷ codes " 0 - " ≡ params_before_hash numbers salt
unfolding hash_numbers_text
usual_text numbers [] flags small algorithm same iterations none = grind (arith, common_steps, decimal_digit)
usual_text numbers (octet ∷ salt) flags small algorithm same iterations none = grind (arith, nat_tests, common_steps)

-- ---- what NSEC and NSEC3 data and the parameters of hashes are written as is read back

-- the bitmap of the types of a bitmap
abbrev pub rebuilt : List ℕ → List ℕ
rebuilt octets = bitmap_octets (is_among (types_of octets))

-- ---- NSEC

types_read : (octets : List ℕ) → IsBitmap octets → BitmapText (map type_text (types_of octets)) (rebuilt octets) []
types_read octets bitmap = record { types = types_of octets; spelled = texts_spell (types_of octets) (are_types octets bitmap); built = refl; all = refl }

pub nsec_text_back : (labels : List (List ℕ)) (octets : List ℕ) → Fits nsec_layout (labels, octets)
    → NsecText (words_of (name_text labels ++ 46 ∷ 32 ∷ [] ++ types_text (types_of octets))) (labels, rebuilt octets) []
nsec_text_back labels octets (valid, bitmap) =
    let types = types_of octets in
    let name = name_text labels ++ 46 ∷ [] in
    let words : words_of (name_text labels ++ 46 ∷ 32 ∷ [] ++ types_text types) ≡ name ∷ map type_text types =
    ap (λ l. words_of (l ++ types_text types)) (sym (append_assoc (name_text labels) (46 ∷ []) (32 ∷ [])))
    ∙ types_after name types (are_types octets bitmap) ∙ ap (λ l. l ++ map type_text types) (one_word name (name_word labels valid)) in
    (map type_text types, record { token = name; first = words; holds = dotted_name_back labels valid }, types_read octets bitmap)

pub nsec_text_same : (labels : List (List ℕ)) (octets : List ℕ) → Fits nsec_layout (labels, octets) → IsShortest octets
    → NsecText (words_of (name_text labels ++ 46 ∷ 32 ∷ [] ++ types_text (types_of octets))) (labels, octets) []
nsec_text_same labels octets fits shortest = grind (arith, common_steps, (bitmap_back octets fits.1 shortest), (nsec_text_back labels octets fits))

-- ---- the parameters of hashes

numbers_words : (v : Values hash_numbers) → Fits hash_numbers v → words_of (hash_numbers_text v) ≡ decimal v.0 ∷ decimal v.1.0 ∷ decimal v.1.1 ∷ []
unfolding hash_numbers_text
numbers_words v fits = grind (arith, common_steps, one_word, decimal_word, next_word)

abbrev params_tokens : Values nsec3param_layout → List (List ℕ)
params_tokens v = decimal v.0.0 ∷ decimal v.0.1.0 ∷ decimal v.0.1.1 ∷ salt_text v.1 ∷ []

params_words : (v : Values nsec3param_layout) → Fits nsec3param_layout v → words_of (nsec3param_text v) ≡ params_tokens v
params_words v fits = grind (arith, common_steps, next_word, salt_word, numbers_words)

params_read : (v : Values nsec3param_layout) (after : List (List ℕ)) → Fits nsec3param_layout v → Nsec3paramText (params_tokens v ++ after) v after
params_read v after fits =
    grind (arith, common_steps, (fields_back hash_numbers v.0 (salt_text v.1 ∷ after) refl fits.0), (salt_back v.1 fits.1.1 (omega (arith, fits.1.0))))

pub params_text_back : (v : Values nsec3param_layout) → Fits nsec3param_layout v → Nsec3paramText (words_of (nsec3param_text v)) v []
params_text_back v fits = subst (λ tokens. Nsec3paramText tokens v []) (sym (params_words v fits)) (params_read v [] fits)

-- ---- NSEC3

hash_read : (v : Values hash_fields) (after : List (List ℕ)) → Fits hash_fields v → HashText (params_tokens v.0 ++ base32_upper v.1 ∷ after) v after
hash_read v after fits = grind (arith, common_steps, (params_read v.0 (base32_upper v.1 ∷ after) fits.0), (upper_reads_back v.1 fits.1.1))

nsec3_words : (v : Values nsec3_layout) → Fits nsec3_layout v → v.0.1 ≢ []
    → words_of (nsec3_text v) ≡ params_tokens v.0.0 ++ base32_upper v.0.1 ∷ map type_text (types_of v.1)
nsec3_words v fits some = grind (arith, common_steps, spaced_words, are_types, next_word, upper_base32_word, params_words)

pub nsec3_text_back : (v : Values nsec3_layout) → Fits nsec3_layout v → v.0.1 ≢ [] → Nsec3Text (words_of (nsec3_text v)) (v.0, rebuilt v.1) []
nsec3_text_back v fits some =
    let types = map type_text (types_of v.1) in
    subst (λ tokens. Nsec3Text tokens (v.0, rebuilt v.1) []) (sym (nsec3_words v fits some))
    (types, hash_read v.0 types fits.0, types_read v.1 fits.1)

pub nsec3_text_same : (v : Values nsec3_layout) → Fits nsec3_layout v → v.0.1 ≢ [] → IsShortest v.1 → Nsec3Text (words_of (nsec3_text v)) v []
nsec3_text_same v fits some shortest = grind (arith, common_steps, bitmap_back, nsec3_text_back)

-- ---- data of chains: their octets are read back, and how they are written

-- octets of fields that fit are read as them alone
pub nsec_back : (v : Values nsec_layout) → Fits nsec_layout v → ParsesBack nsec_layout v
nsec_back v fits = parses_back nsec_layout v refl fits (tt, refl)

pub params_back : (v : Values nsec3param_layout) → Fits nsec3param_layout v → ParsesBack nsec3param_layout v
params_back v fits = parses_back nsec3param_layout v refl fits ((tt, (tt, tt)), tt)

pub nsec3_back : (v : Values nsec3_layout) → Fits nsec3_layout v → ParsesBack nsec3_layout v
nsec3_back v fits = parses_back nsec3_layout v refl fits ((((tt, (tt, tt)), tt), tt), refl)

-- types after a space
pub after_a_space : (types : List ℕ) → (types ≡ [] → ⊥) → codes " " ++ types_text types ≡ spaced_types types
unfolding types_text spaced_types
after_a_space [] some = absurd (some refl)
after_a_space (t ∷ types) some = refl

pub numbers_written : (a b c d e f : List PieceText) (said : List ℕ) (x y z : ℕ)
    → b ≡ a ++ token (decimal x) ∷ [] → c ≡ b ++ token (decimal y) ∷ [] → d ≡ c ++ comment said ∷ [] → e ≡ d ++ token (decimal z) ∷ []
    → f ≡ e ++ comment (codes "iterations") ∷ [] → f ≡ a ++ number_pieces said (x, (y, z))
numbers_written a b c d e f said x y z ab bc cd de ef = grind (arith, common_steps)
