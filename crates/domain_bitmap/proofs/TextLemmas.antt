-- Sets of types, salts and hashes as tokens: read back what was written, refused for one reason.
use Rattle.std.proofs.Common.{◌≡◌, ◌≢◌, ℕ, ◌+◌, ◌*◌, ◌/◌, ◌<◌, false, List, [], ◌∷◌, length, refl, arith, Option, ◌≤◌, drop, sym, ap, ◌∙◌, codes, ◌-◌, Bool}
use Rattle.std.{proofs.{Common.{true, ◌++◌, zero, suc, map, eq-eqb, append_assoc}, lemmas.Grind.common_steps}, specs.Prelude.{◌||◌, ◌==◌, if◌then◌else◌}}
use Rattle.std.specs.{Prelude.{IsNone, filter, ◌&&◌, ◌%◌, ◌↔◌, Ok, Err, Result, IsErrOf}, List.{range_with_len, AllByRecursion, All, flat_map}}
use Rattle.std.proofs.lemmas.{Bool.Decides.nat_tests, List.append-nil, Map.Views.any-filter_same}
use Rattle.domain_base.{specs.{Numbers.{TypeText, IsNoType, type_text}, Scan.{RefusesToken, refused, ended, TakesToken}}, proofs.TextLemmas.no_token}
use Rattle.domain_base.{specs.Scan.{CodecFault, TokenHasNoRoom}, proofs.TextLemmas.{one_named, type_back, type_word}}
use Rattle.domain_names.specs.{Text.{ScanFault, no_memory, scan_fault_of, scan_error_of, illegal, IsOfTokens}, declared.error.ScanError.ScanError}
use Rattle.domain_octets.specs.{Octets.IsOver, declared.error.AppendError.{AppendError, TheVariants.{ShortBuf, OutOfMemory}}, Text.{words_of, words_after}}
use Rattle.domain_octets.{specs.Text.IsWord, proofs.{WordLemmas.{one_word, next_word, last_space}, StdLemmas.and_true}}
use Rattle.domain_bitmap.specs.Blocks.{holds, has_window, has_bit, Block, IsBlock, IsBitmap, IsShortest, blocks_of, block_types_from, types_of, types_below}
use Rattle.domain_bitmap.specs.{Blocks.contains_type, Text.{TypeTexts, no_types, one_more, is_among, has_type_in, room_for, TypeFault, RefusesAfter, next}}
use Rattle.domain_bitmap.specs.Text.{later, RefusesTypes, SaltText, dash, digits, salt_text, OwnerHashText, CountedFault, SaltTokenFault, BeginsWithDash}
use Rattle.domain_bitmap.{specs.{Text.{after_dash, in_digits, spaced_types, types_text}, Bitmap.bitmap_octets}, proofs.BitLemmas.{filter_at, any_at}}
use Rattle.domain_bitmap.{specs.Text.IsCutShort, proofs.BitmapLemmas.{bitmap_octets-same, built_from_shortest, types_of-bitmap_octets}}
use Rattle.domain_codecs.{specs.{Codec.Decodes, declared.codec.Codec.TheVariants.{Base16, Base32Hex}}, proofs.CodecBackLemmas.{upper_back, decodes_once}}
use Rattle.domain_codecs.{proofs.CodecLemmas.upper_hex_word, specs.declared.codec.Codec.Codec}
use Rattle.domain_names.specs.declared.error.ScanError.TheVariants as scan_error
use Rattle.hex.specs.{Hex.{decode_pairs}, declared.error.FromHexError.TheVariants.OddLength}

-- ---- types read from tokens

windows-more : (types : List ℕ) (t n : ℕ) → t / 256 < n → length (filter (has_type_in (t ∷ types)) (range_with_len 0 n))
    ≡ length (filter (has_type_in types) (range_with_len 0 n)) + (if has_type_in types (t / 256) then 0 else 1)
unfolding has_type_in
windows-more types t n inside =
    let more = filter_at (has_type_in types) (has_type_in (t ∷ types)) (t / 256) n (λ w other. grind (arith, common_steps)) in
    grind (arith, common_steps, more)

room-more : (types : List ℕ) (t : ℕ) → t < 65536 → room_for (t ∷ types) ≡ room_for types + 34 * (if has_type_in types (t / 256) then 0 else 1)
unfolding room_for
room-more types t small = omega (arith, windows-more types t 256 (omega (arith, small)))

-- what was read so far, the last type first, and how what is left goes on from there
pub record Scanned (old now : List (List ℕ)) (value : List ℕ) : Type 0 where
  pub read : List ℕ
  pub spelled : (rest : List ℕ) → TypeTexts now rest
      → (types : List ℕ) × TypeTexts old types × ((t : ℕ) → is_among types t ≡ (is_among rest t || is_among read t))
  pub refused_later : (limit : Option ℕ) (new : List (List ℕ)) (fault : ScanFault) → RefusesAfter limit read now new fault → RefusesTypes limit old new fault
  pub held : (t : ℕ) → t < 65536 → holds value t ≡ is_among read t
  pub windows : (w : ℕ) → has_window value w ≡ has_type_in read w
  pub room : length value ≡ room_for read

pub scan_starts : (tokens : List (List ℕ)) (value : List ℕ) → value ≡ [] → Scanned tokens tokens value
unfolding holds has_window is_among has_type_in room_for
scan_starts tokens value none = record {
  read = [];
  spelled = λ rest more. (rest, more, λ t. grind (arith, common_steps));
  refused_later = λ limit new fault why. why;
  held = λ t small. rw none refl;
  windows = λ w. rw none refl;
  room = rw none refl;
}

pub scan_goes : (old now rest : List (List ℕ)) (value after : List ℕ) (token : List ℕ) (t : ℕ) → Scanned old now value
    → now ≡ token ∷ rest → TypeText token t → t < 65536
    → ((u : ℕ) → u < 65536 → holds after u ≡ ((u == t) || holds value u)) → ((w : ℕ) → has_window after w ≡ ((w == t / 256) || has_window value w))
    → length after ≡ (if has_window value (t / 256) then length value else length value + 34) → Scanned old rest after
unfolding is_among has_type_in
scan_goes old now rest value after token t scanned first spells small held windows size = record {
  read = t ∷ scanned.read;
  spelled = λ types more. let all = scanned.spelled (t ∷ types) (rw first (one_more token rest t types spells more)) in
      (all.0, all.1, λ u. grind (arith, common_steps, (all.2 u)));
  refused_later = λ limit new fault why. scanned.refused_later limit new fault (rw first (later scanned.read token t rest new fault spells why));
  held = λ u below. grind (arith, common_steps, (held u below), (scanned.held u below));
  windows = λ w. grind (arith, common_steps, (windows w), (scanned.windows w));
  room = grind (arith, common_steps, (room-more scanned.read t small), (scanned.windows (t / 256)), scanned.room);
}

pub scan_ends : (old now : List (List ℕ)) (value : List ℕ) → Scanned old now value → now ≡ []
    → (types : List ℕ) × TypeTexts old types × ((t : ℕ) → t < 65536 → holds value t ≡ is_among types t)
unfolding is_among
scan_ends old now value scanned none = grind (arith, common_steps, no_types)

pub scan_refused : (limit : Option ℕ) (old now rest : List (List ℕ)) (value : List ℕ) (fault : ScanFault) → Scanned old now value
    → now ≢ [] → RefusesToken IsNoType now rest fault → RefusesTypes limit old rest fault
scan_refused limit old now rest value fault scanned some bad = grind (arith, common_steps, next)

-- a type for which the builder has no room, or no memory
pub scan_full : (limit : Option ℕ) (old now rest : List (List ℕ)) (value : List ℕ) (token : List ℕ) (t : ℕ) (error : AppendError)
    → Scanned old now value → now ≡ token ∷ rest → TypeText token t → t < 65536
    → (error ≡ ShortBuf → (has_window value (t / 256) ≡ false) × IsOver limit (length value + 34))
    → (error ≡ OutOfMemory → IsNone limit) → RefusesTypes limit old rest (scan_fault_of (scan_error_of error))
scan_full limit old now rest value token t error scanned first spells small short memory = grind (arith, common_steps, room-more, next)

pub none_left : (tokens : List (List ℕ)) → (tokens ≢ [] → ⊥) → tokens ≡ []
none_left [] not_some = refl
none_left (token ∷ tokens) not_some = absurd (not_some (λ e. cc))

-- ---- octets that an octet counts, read from tokens

-- there is no length
pub cut_at_length : (left : List ℕ) → length left < 1 → IsCutShort left
cut_at_length left none octets after is = omega (arith, none, ap length is)

-- a token that was read had room: it is refused where it stands for too many octets
pub refused_too_long : {X : Type 0} (codec : Codec) (long : List ℕ) (limit : Option ℕ) (old new : List (List ℕ)) (octets : List ℕ) (x : X)
    (r : Result X ScanError) → r ≡ Ok x → TakesToken (λ token. Decodes codec token octets) old new
    → IsErrOf r scan_error.ShortBuf ↔ TokenHasNoRoom codec limit old → (length octets ≤ 255 → false ≡ true)
    → RefusesToken (CountedFault codec long limit) old new (illegal long)
refused_too_long codec long limit old new octets x r is took no_room counted = grind (arith, common_steps, refused, illegal)

-- a token that the codec refused
pub refused_by_codec : (codec : Codec) (long : List ℕ) (limit : Option ℕ) (old new : List (List ℕ)) (fault : ScanFault)
    → RefusesToken (CodecFault codec limit) old new fault → RefusesToken (CountedFault codec long limit) old new fault
refused_by_codec codec long limit old new fault bad = grind (arith, common_steps, ended, refused)

-- ---- salts read from tokens

gone_past : (old new rest : List (List ℕ)) (token : List ℕ) → old ≡ token ∷ rest → new ≡ drop 1 old → old ≡ token ∷ new
gone_past old new rest token is past = is ∙ ap (λ l. token ∷ l) (sym (past ∙ ap (drop 1) is))

-- a dash alone
pub took_dash : (old new : List (List ℕ)) (token salt : List ℕ) → (rest : List (List ℕ)) × (old ≡ token ∷ rest) → new ≡ drop 1 old
    → token ≡ codes "-" → salt ≡ [] → TakesToken (λ t. SaltText t salt) old new
took_dash old new token salt first past alone none = grind (arith, common_steps, gone_past, dash)

-- a dash and more
pub refused_dash : (limit : Option ℕ) (old new : List (List ℕ)) (token : List ℕ) → (rest : List (List ℕ)) × (old ≡ token ∷ rest)
    → new ≡ drop 1 old → BeginsWithDash token → token ≢ codes "-"
    → RefusesToken (SaltTokenFault limit) old new (illegal (codes "illegal NSEC3 salt"))
refused_dash limit old new token first past begins more = rw (gone_past old new first.0 token first.1 past) (refused token new _ (after_dash token begins more))

pub took_digits : (old new : List (List ℕ)) (token salt : List ℕ) → (rest : List (List ℕ)) × (old ≡ token ∷ rest)
    → (BeginsWithDash token → ⊥) → TakesToken (λ t. Decodes Base16 t salt) old new → length salt ≤ 255
    → TakesToken (λ t. SaltText t salt) old new
took_digits old new token salt first other took counted = grind (arith, common_steps, digits)

pub refused_digits : (limit : Option ℕ) (old new : List (List ℕ)) (token : List ℕ) (fault : ScanFault)
    → (rest : List (List ℕ)) × (old ≡ token ∷ rest) → (BeginsWithDash token → ⊥)
    → RefusesToken (CountedFault Base16 (codes "illegal NSEC3 salt") limit) old new fault
    → RefusesToken (SaltTokenFault limit) old new fault
refused_digits limit old new token fault first other bad = grind (arith, common_steps, refused, in_digits)

pub ruleset salt_texts = (dash, digits)

pub ruleset salt_steps = (no_token, took_dash, refused_digits)

-- ---- what sets of types and salts are written as is read back

-- ---- types of 16 bits

abbrev pub AreTypes : List ℕ → Type 0
AreTypes types = AllByRecursion (λ t. t < 65536) types

filtered_types : (test : ℕ → Bool) (a n : ℕ) → a + n ≤ 65536 → AreTypes (filter test (range_with_len a n))
filtered_types test a zero fits = tt
filtered_types test a (suc n) fits = grind (arith, common_steps, (filtered_types test (a + 1) n (omega (arith, fits))))

block_types : (block : Block) → block.window < 256 → AreTypes (block_types_from block 0)
unfolding block_types_from
block_types block small = filtered_types (has_bit block.octets) (256 * block.window + 0) (256 - 0) (omega (arith, small))

blocks_types : (blocks : List Block) → AllByRecursion IsBlock blocks → AreTypes (flat_map (λ block. block_types_from block 0) blocks)
blocks_types [] valid = tt
blocks_types (block ∷ blocks) valid = grind (arith, common_steps, block_types, (blocks_types blocks valid.1))

pub are_types : (octets : List ℕ) → IsBitmap octets → AreTypes (types_of octets)
unfolding types_of
are_types octets bitmap = blocks_types (blocks_of octets) bitmap.valid

-- ---- their texts

pub texts_spell : (types : List ℕ) → AreTypes types → TypeTexts (map type_text types) types
texts_spell [] small = no_types
texts_spell (t ∷ types) small = one_more (type_text t) (map type_text types) t types (type_back t small.0) (texts_spell types small.1)

pub spelled_once : (tokens : List (List ℕ)) (x y : List ℕ) → TypeTexts tokens x → TypeTexts tokens y → x ≡ y
spelled_once tokens x y no_types no_types = refl
spelled_once tokens x y (one_more token rest t types text more) (one_more token' rest' u others text' more') =
    grind (arith, common_steps, one_named, (spelled_once rest types others more more'))

-- words, and types that stand after spaces
pub spaced_words : (front types : List ℕ) → AreTypes types → words_of (front ++ spaced_types types) ≡ words_of front ++ map type_text types
unfolding spaced_types
spaced_words front [] small = ap words_of (append-nil front) ∙ sym (append-nil (words_of front))
spaced_words front (t ∷ types) small =
    grind (arith, common_steps, append_assoc, next_word, type_word, (spaced_words ((front ++ 32 ∷ []) ++ type_text t) types small.1))

-- words, and types after a space
pub types_after : (front types : List ℕ) → AreTypes types → words_of ((front ++ 32 ∷ []) ++ types_text types) ≡ words_of front ++ map type_text types
unfolding types_text spaced_types
types_after front [] small = ap words_of (append-nil (front ++ 32 ∷ [])) ∙ last_space front ∙ sym (append-nil (words_of front))
types_after front (t ∷ types) small = ap words_of (append_assoc front (32 ∷ []) _) ∙ spaced_words front (t ∷ types) small

types_words : (types : List ℕ) → AreTypes types → words_of (types_text types) ≡ map type_text types
unfolding types_text words_after
types_words types small = grind (arith, common_steps, spaced_words, one_word, type_word)

pub types_back : (octets : List ℕ) → IsBitmap octets → TypeTexts (words_of (types_text (types_of octets))) (types_of octets)
types_back octets bitmap = grind (arith, common_steps, are_types, types_words, texts_spell)

-- ---- the bitmap of these types

among_below : (types : ℕ → Bool) (n t : ℕ) → t < n → is_among (types_below n types) t ≡ types t
unfolding is_among types_below
among_below types n t below =
    any-filter_same _ types _ (λ u same. let e : u ≡ t = grind (arith, nat_tests) in ap types e) _
    ∙ ap (λ b. types t && b) (any_at _ n t below (eq-eqb t t refl)) ∙ and_true _

among_built : (types : ℕ → Bool) (n t : ℕ) → n ≡ 65536 → t < 65536 → is_among (types_of (bitmap_octets types)) t ≡ types t
among_built types n t all small = grind (arith, common_steps, types_of-bitmap_octets, among_below)

pub bitmap_back : (octets : List ℕ) → IsBitmap octets → IsShortest octets → bitmap_octets (is_among (types_of octets)) ≡ octets
bitmap_back octets bitmap shortest = grind (arith, common_steps, built_from_shortest, contains_type, bitmap_octets-same, is_among, types_of, among_built)

-- ---- salts

pub salt_back : (octets : List ℕ) → All (λ octet. octet < 256) octets → length octets ≤ 255 → SaltText (salt_text octets) octets
salt_back octets small counted = grind (arith, common_steps, dash, digits, upper_back)

pub salt_word : (octets : List ℕ) → IsWord (salt_text octets)
salt_word [] = record { some = λ none. cc; unbroken = (refl, tt) }
salt_word (octet ∷ octets) = upper_hex_word (octet ∷ octets) (λ none. cc)

-- ---- Tokens that are refused as types, salts and hashes: for one reason, and spelling nothing.

-- ---- types

type_fault : (limit : Option ℕ) (types : List ℕ) (fault : ScanFault) (token : List ℕ) → TypeFault limit types fault token
    → IsOfTokens limit fault → IsNoType fault token
type_fault limit types fault token why own = grind (arith, common_steps)

pub types_refused : (limit : Option ℕ) (read : List ℕ) (old new : List (List ℕ)) (types : List ℕ) (fault : ScanFault)
    → RefusesAfter limit read old new fault → TypeTexts old types → IsOfTokens limit fault → ⊥
types_refused limit read old new types fault (next r token left f why) (one_more tok toks t ts is more) own = (type_fault limit r f token why own).none t is
types_refused limit read old new types fault (later r token u toks left f spells why) (one_more tok rest t ts is more) own =
    types_refused limit (u ∷ r) toks left ts f why more own

pub types_one_fault : (limit : Option ℕ) (read others : List ℕ) (old m n : List (List ℕ)) (x y : ScanFault) → RefusesAfter limit read old m x
    → RefusesAfter limit others old n y → IsOfTokens limit x → IsOfTokens limit y → (x ≡ y) × (m ≡ n)
types_one_fault limit read others old m n x y (next r token left f why) (next s tok rest g also) own known = grind (arith, common_steps, type_fault)
types_one_fault limit read others old m n x y (next r token left f why) (later s tok t toks rest g is also) own known = grind (arith, common_steps, type_fault)
types_one_fault limit read others old m n x y (later r token t toks left f is why) (next s tok rest g also) own known = grind (arith, common_steps, type_fault)
types_one_fault limit read others old m n x y (later r token t toks left f spells why) (later s tok u tokens rest g spelled also) own known =
    grind (arith, common_steps, (types_one_fault limit (t ∷ r) (u ∷ s) toks left rest f g why also own known))

-- ---- octets that an octet counts

-- memory may be wanting for octets that turn out to be too many
pub counted_one_fault : (codec : Codec) (long : List ℕ) (limit : Option ℕ) (x y : ScanFault) (text : List ℕ)
    → CountedFault codec long limit x text → CountedFault codec long limit y text → x ≢ no_memory → y ≢ no_memory → x ≡ y
counted_one_fault codec long limit x y text p q known also = grind (arith, common_steps)

-- ---- hashes

pub hash_excludes : (limit : Option ℕ) (fault : ScanFault) (text octets : List ℕ)
    → CountedFault Base32Hex (codes "illegal owner name hash") limit fault text → OwnerHashText text octets
    → IsOfTokens limit fault → ⊥
hash_excludes limit fault text octets why is own = grind (arith, common_steps)

pub hash_once : (text a b : List ℕ) → OwnerHashText text a → OwnerHashText text b → a ≡ b
hash_once text a b x y = decodes_once Base32Hex text a b x.decoded y.decoded

-- ---- salts

-- a dash is no digit of Base 16
dash_first : (c d i : ℕ) (text octets : List ℕ) → c ≡ 45 → decode_pairs i (c ∷ d ∷ text) ≡ Ok octets → ⊥
unfolding decode_pairs
dash_first c d i text octets begins is = grind (arith, common_steps)

dash_in_pairs : (odd : Bool) (c d : ℕ) (text octets : List ℕ) → c ≡ 45 → (if odd then Err OddLength else decode_pairs 0 (c ∷ d ∷ text)) ≡ Ok octets → ⊥
dash_in_pairs odd c d text octets begins is = grind (arith, common_steps, dash_first)

dash_is_no_digit : (text octets : List ℕ) → BeginsWithDash text → Decodes Base16 text octets → ⊥
dash_is_no_digit [] octets begins is = begins
dash_is_no_digit (c ∷ []) octets begins is = cc
dash_is_no_digit (c ∷ d ∷ text) octets begins is = dash_in_pairs (length (c ∷ d ∷ text) % 2 == 1) c d text octets begins is

pub salt_once : (text x y : List ℕ) → SaltText text x → SaltText text y → x ≡ y
salt_once text x y h h4 = grind (arith, common_steps)

pub salt_excludes : (limit : Option ℕ) (fault : ScanFault) (text octets : List ℕ) → SaltTokenFault limit fault text
    → SaltText text octets → IsOfTokens limit fault → ⊥
salt_excludes limit fault text octets h h5 own = grind (arith, common_steps, dash_is_no_digit)

pub salt_one_fault : (limit : Option ℕ) (x y : ScanFault) (text : List ℕ) → SaltTokenFault limit x text
    → SaltTokenFault limit y text → x ≢ no_memory → y ≢ no_memory → x ≡ y
salt_one_fault limit x y text h h5 known also = grind (arith, common_steps)
