-- texts that are gone through in pieces of 64 characters, and what each piece stands for
use Rattle.std.proofs.Common.{◌≡◌, ℕ, zero, suc, ◌+◌, ◌*◌, ◌%◌, ◌<◌, ◌≤◌, true, false, List, [], ◌∷◌, ◌++◌, length, take, length-append}
use Rattle.std.proofs.{Common.{Some, None, add-zero, nat_eq, refl, ap, subst, ◌∙◌, arith, Ok, Err}, Math.ListN.get_or-append}
use Rattle.std.{proofs.lemmas.{List.{append-nil, map-append, length-map, get_or-append-add, take-append-drop}, Grind.common_steps}, specs.Prelude.{◌↔◌, Bool}}
use Rattle.std.{specs.{Prelude.{IsTrue, Option, Result}, Option.option_or, List.AllPass}, proofs.lemmas.List.{drop_at, Folds.find-append}}
use Rattle.base64.specs.{GeneralPurpose.IsBytes, Engines.standard, declared.decode.DecodeError.DecodeError}
use Rattle.base64.proofs.EngineFacts.{decode_of-encode_of, encode_of-nil, front_bytes}
use Rattle.base64.specs.GeneralPurpose as base64
use Rattle.hex.{specs.{Hex.{decode_of, decode_pairs, digit_or_error, hex_digit_value, pair_value, ◌>>=◌}, declared.error.FromHexError.FromHexError}}
use Rattle.hex.proofs.{HexLemmas.{decode_of-even, decode_of-ok, decode_of-same, decode_pairs-digits}, Pairs.{cons_byte, decode_pairs-ok_pair}}
use Rattle.domain_codecs.specs.{declared.codec.Codec.{Codec, TheVariants.{Base16, Base32Hex, Base64}}, Codec.{Decodes, IsText, first_other, is_digit}}
use Rattle.domain_codecs.{specs.Codec.{base32_octets, base32_digits, IsBase32, Cut}, proofs.{CodecBackLemmas.decodes_once, Base64Lemmas.DecodesTo}}
use Rattle.domain_codecs.proofs.Base64Lemmas.{split_pieces, bytes-drop, joined_groups}
use Rattle.domain_octets.specs.Octets.{AreOctets}

-- octets are what the library `base64` takes for bytes
pub bytes_of : (text : List ℕ) → AreOctets text → IsBytes text
bytes_of text all i = grind (arith, common_steps)

-- ---- one piece after another

-- ---- the first character of a text that is none of the codec's, by its first piece

other_of_pieces : (codec : Codec) (left piece after : List ℕ) → Cut left piece after
    → first_other codec left ≡ option_or (first_other codec piece) (first_other codec after)
unfolding first_other
other_of_pieces codec left piece after cut = ap (first_other codec) cut.parts ∙ find-append _ piece after

pub other_found : (codec : Codec) (left piece after : List ℕ) (c : ℕ) → Cut left piece after → first_other codec piece ≡ Some c
    → first_other codec left ≡ Some c
other_found codec left piece after c cut found = other_of_pieces codec left piece after cut ∙ rw found refl

pub other_behind : (codec : Codec) (left piece after : List ℕ) → Cut left piece after → first_other codec piece ≡ None
    → first_other codec left ≡ first_other codec after
other_behind codec left piece after cut none = other_of_pieces codec left piece after cut ∙ rw none refl

-- a piece without characters is the last
pub none_after : (left piece after : List ℕ) → Cut left piece after → length piece ≡ 0 → left ≡ []
none_after left [] after cut none = cut.parts ∙ cut.full (omega arith)
none_after left (c ∷ piece) after cut none = absurd (omega arith)

pub no_other : (codec : Codec) (left piece after : List ℕ) → Cut left piece after → length piece ≡ 0 → first_other codec left ≡ None
unfolding first_other
no_other codec left piece after cut none = ap (first_other codec) (none_after left piece after cut none)

pub ruleset other_steps = (other_found, other_behind, no_other)

pass_front : (codec : Codec) (front back : List ℕ) → AllPass (is_digit codec) (front ++ back) → AllPass (is_digit codec) front
pass_front codec front back all = λ i d below. let here = all i d (omega (arith, length-append front back)) in rw (get_or-append front back d i below) at here

pass_back : (codec : Codec) (front back : List ℕ) → AllPass (is_digit codec) (front ++ back) → AllPass (is_digit codec) back
pass_back codec front back all = λ i d below. let here = all (length front + i) d (omega (arith, length-append front back)) in rw
    (get_or-append-add front back i d) at here

-- what stands in a buffer is a piece, where the buffer is full or the text is over
pub cut_at : (text buffer after : List ℕ) (count : ℕ) → length buffer ≡ 64 → text ≡ take count buffer ++ after → count ≤ 64
    → (count < 64 → after ≡ []) → Cut text (take count buffer) after
cut_at text buffer after count size parts small full = grind (arith, common_steps)

-- what the parts of a text stand for, one after the other
pub record Halves (codec : Codec) (piece after octets : List ℕ) : Type 0 where
  pub front : List ℕ
  pub back : List ℕ
  pub first : Decodes codec piece front
  pub others : Decodes codec after back
  pub parts : octets ≡ front ++ back

-- no characters stand for no octets
nothing : (codec : Codec) → Decodes codec [] []
unfolding decode_pairs base32_octets
nothing Base16 = refl
nothing Base32Hex = record { digits = λ i d below. absurd (omega arith); whole = refl; value = refl }
nothing Base64 = subst (λ t. DecodesTo t []) (encode_of-nil standard) (decode_of-encode_of standard [] refl (λ i. omega arith))

-- the first octet, which two digits stand for, and the others
record First (a b : ℕ) (others : Result (List ℕ) FromHexError) (octets : List ℕ) : Type 0 where
  octet : ℕ
  digits : decode_pairs 0 (a ∷ b ∷ []) ≡ Ok (octet ∷ [])
  pair : (place : ℕ) → pair_value a b place ≡ Ok octet
  rest : List ℕ
  read : others ≡ Ok rest
  parts : octets ≡ octet ∷ rest

first_octet : (high low : Option ℕ) (a b i j : ℕ) (others : Result (List ℕ) FromHexError) (octets : List ℕ) → hex_digit_value a ≡ high → hex_digit_value b ≡ low
    → ((digit_or_error a i high >>= (λ h. digit_or_error b j low >>= (λ l. Ok (h * 16 + l)))) >>= (λ octet. others >>= (λ rest. Ok (octet ∷ rest)))) ≡ Ok octets
    → First a b others octets
unfolding decode_pairs
first_octet high low a b i j others octets first second is = grind (arith, common_steps)

-- pairs of digits that are read, wherever they stand, and those after them
pub pairs_then : (i j : ℕ) (front back octets others : List ℕ) → decode_pairs i front ≡ Ok octets → decode_pairs (j + length front) back ≡ Ok others
    → decode_pairs j (front ++ back) ≡ Ok (octets ++ others)
unfolding decode_pairs
pairs_then i j [] back octets others is after = let none : [] ≡ octets = cc is in rw (← none) (rw add-zero at after)
pairs_then i j (a ∷ []) back octets others is after = cc is
pairs_then i j (a ∷ b ∷ front) back octets others is after =
    let here = first_octet (hex_digit_value a) (hex_digit_value b) a b i (i + 1) (decode_pairs (i + 2) front) octets refl refl is in
    let place : j + length (a ∷ b ∷ front) ≡ j + 2 + length front = omega arith in
    let more = pairs_then (i + 2) (j + 2) front back here.rest others here.read (rw place at after) in
    rw here.parts (decode_pairs-ok_pair j a b here.octet (front ++ back) (here.pair j) ∙ ap (cons_byte here.octet) more)

halves16 : (piece after octets : List ℕ) → length piece ≡ 64 → decode_of (piece ++ after) ≡ Ok octets → Halves Base16 piece after octets
unfolding decode_pairs
halves16 piece after octets full decoded =
    let whole = decode_of-ok (piece ++ after) octets decoded in
    let even : length after % 2 ≡ 0 = omega (arith, whole.0, length-append piece after) in
    let first = decode_pairs-digits 0 piece (omega (arith, full)) (pass_front Base16 piece after whole.1) in
    let others = decode_pairs-digits 0 after even (pass_back Base16 piece after whole.1) in
    let moved = rw (append-nil after, append-nil others.0) at (pairs_then 0 (0 + length piece) after [] others.0 [] others.1 refl) in
    record {
      front = first.0;
      back = others.0;
      first = decode_of-even piece (omega (arith, full)) ∙ first.1;
      others = decode_of-even after even ∙ others.1;
      parts = decode_of-same (piece ++ after) _ _ decoded (decode_of-even (piece ++ after) whole.0 ∙ pairs_then 0 0 piece after first.0 others.0 first.1 moved);
    }

-- eight digits are five octets
eight : (a b c d e f g h : ℕ) (digits : List ℕ) → base32_octets 1 0 (a ∷ b ∷ c ∷ d ∷ e ∷ f ∷ g ∷ h ∷ digits)
    ≡ base32_octets 1 0 (a ∷ b ∷ c ∷ d ∷ e ∷ f ∷ g ∷ h ∷ []) ++ base32_octets 1 0 digits
unfolding base32_octets
eight a b c d e f g h digits = grind (arith, common_steps)

eights : (n : ℕ) (front back : List ℕ) → length front ≡ 8 * n → base32_octets 1 0 (front ++ back) ≡ base32_octets 1 0 front ++ base32_octets 1 0 back
unfolding base32_octets
eights zero [] back size = refl
eights zero (a ∷ front) back size = absurd (omega arith)
eights (suc n) (a ∷ b ∷ c ∷ d ∷ e ∷ f ∷ g ∷ h ∷ front) back size = grind (arith, common_steps, (eights n front back (omega arith)))
eights (suc n) front back size = absurd (omega (arith, size))

halves32 : (piece after octets : List ℕ) → length piece ≡ 64 → IsBase32 (piece ++ after) octets → Halves Base32Hex piece after octets
halves32 piece after octets full decoded =
    let same : length (piece ++ after) % 8 ≡ length after % 8 = omega (arith, length-append piece after) in
    record {
      front = base32_octets 1 0 (base32_digits piece);
      back = base32_octets 1 0 (base32_digits after);
      first = record { digits = pass_front Base32Hex piece after decoded.digits; whole = rw full refl; value = refl };
      others = record { digits = pass_back Base32Hex piece after decoded.digits; whole = rw same at decoded.whole; value = refl };
      parts = decoded.value ∙ ap (base32_octets 1 0) (map-append _ piece after) ∙ eights 8 _ _ (length-map piece _ ∙ full);
    }

halves64 : (piece after octets : List ℕ) (c : ℕ) → IsBytes (piece ++ c ∷ after) → length piece ≡ 64
    → DecodesTo (piece ++ c ∷ after) octets → Halves Base64 piece (c ∷ after) octets
halves64 piece after octets c bytes full decoded =
    grind (arith, common_steps, (split_pieces piece (c ∷ after) octets bytes full (omega arith) decoded), (take-append-drop 48 octets))

of_two : (codec : Codec) (piece after octets : List ℕ) (c : ℕ) → IsBytes (piece ++ c ∷ after) → length piece ≡ 64
    → Decodes codec (piece ++ c ∷ after) octets → Halves codec piece (c ∷ after) octets
of_two codec piece after octets c bytes full decoded = grind (arith, common_steps, halves16, halves32, halves64)

pub halves : (codec : Codec) (text piece after octets : List ℕ) → IsBytes text → Cut text piece after → Decodes codec text octets
    → Halves codec piece after octets
halves codec text piece [] octets bytes cut decoded = grind (arith, common_steps, nothing)
halves codec text piece (c ∷ after) octets bytes cut decoded = grind (arith, common_steps, of_two)

bytes_after : (text piece after : List ℕ) → text ≡ piece ++ after → IsBytes text → IsBytes after
bytes_after text piece after parts bytes = grind (arith, common_steps, (drop_at piece after (length piece) refl), (bytes-drop (length piece) text bytes))

-- some pieces of the text have been read, and these characters are left
pub record ReadPieces (codec : Codec) (text left built : List ℕ) : Type 0 where
  pub rest : List ℕ
  pub decoded : Decodes codec left rest
  pub whole : Decodes codec text (built ++ rest)
  pub bytes : IsBytes left

-- the next piece stands for octets, and what is after it for others
pub record NextPiece (codec : Codec) (text piece after built : List ℕ) : Type 0 where
  pub octets : List ℕ
  pub first : Decodes codec piece octets
  pub more : ReadPieces codec text after (built ++ octets)

pub pieces_next : (codec : Codec) (text left piece after built : List ℕ) → ReadPieces codec text left built → Cut left piece after
    → NextPiece codec text piece after built
pieces_next codec text left piece after built so_far cut =
    grind (
      arith,
      common_steps,
      (halves codec left piece after so_far.rest so_far.bytes cut so_far.decoded),
      (bytes_after left piece after cut.parts so_far.bytes),
    )

pub pieces_end : (codec : Codec) (text left built : List ℕ) → ReadPieces codec text left built → left ≡ [] → Decodes codec text built
pieces_end codec text left built so_far none =
    let decoded : Decodes codec [] so_far.rest = subst (λ t. Decodes codec t so_far.rest) none so_far.decoded in
    let over : so_far.rest ≡ [] = decodes_once codec [] so_far.rest [] decoded (nothing codec) in
    subst (λ o. Decodes codec text o) (ap (λ r. built ++ r) over ∙ append-nil built) so_far.whole

-- ---- the pieces of a text in Base 64

-- some pieces of the text have passed, and these characters are left: they decide
pub record Passed (text left : List ℕ) : Type 0 where
  pub decides : IsText Base64 left ↔ IsText Base64 text
  pub bytes : IsBytes left

pub passed_begin : (text left : List ℕ) → left ≡ text → AreOctets text → Passed text left
passed_begin text left is all = rw is (record { decides = (λ h. h, λ h. h); bytes = bytes_of text all })

module _ (text left piece after : List ℕ) (so_far : Passed text left) (cut : Cut left piece after) where
  parted : IsText Base64 text → (octets : List ℕ) × Halves Base64 piece after octets
  parted is = let here = so_far.decides.1 is in (here.0, halves Base64 left piece after here.0 so_far.bytes cut here.1)

  -- a piece that stands for nothing is part of no text
  pub refused_piece : (e : DecodeError) → base64.decode_of standard piece ≡ Err e → IsText Base64 text → ⊥
  refused_piece e refused is = let first = (parted is).1.first in cc

  module _ (octets : List ℕ) (read : DecodesTo piece octets) where
    -- one that stands for fewer than 48 octets is the last
    short_ends : length octets < 48 → 0 < length after → IsText Base64 text → ⊥
    short_ends short some is =
        let here = so_far.decides.1 is in
        let pieces = split_pieces piece after here.0 (subst IsBytes cut.parts so_far.bytes) (grind (arith, common_steps)) some
        (subst (λ t. DecodesTo t here.0) cut.parts here.1) in
        let first : DecodesTo piece (take 48 here.0) = pieces.first in
        let same : octets ≡ take 48 here.0 = cc in
        omega (arith, pieces.full, ap length same)

    -- so whether anything is left says whether it is a text
    pub short_decides : length octets < 48 → (next rest : List ℕ) (none : Bool) → Cut after next rest → none ≡ nat_eq (length next) 0
        → IsTrue none ↔ IsText Base64 text
    short_decides short [] rest none more told =
        (λ yes. so_far.decides.0 (octets, rw (cut.parts, none_after after [] rest more refl, append-nil) read), λ is. rw told refl)
    short_decides short (c ∷ next) rest true more told = grind (arith, common_steps)
    short_decides short (c ∷ next) rest false more told = (λ no. cc no, λ is. absurd (short_ends short (rw more.parts (omega arith)) is))

    -- one that stands for 48 octets may be followed by others
    pub full_goes_on : length octets ≡ 48 → Passed text after
    full_goes_on full = record {
      decides = (
        λ is. so_far.decides.0 (
          octets ++ is.0,
          rw cut.parts (joined_groups piece after octets is.0 (front_bytes piece after (subst IsBytes cut.parts so_far.bytes))
              (bytes_after left piece after cut.parts so_far.bytes) (omega arith) read is.1),
        ),
        λ is. let two = (parted is).1 in (two.back, two.others),
      );
      bytes = bytes_after left piece after cut.parts so_far.bytes;
    }

-- and is no empty piece
pub full_is_some : (left piece after octets : List ℕ) → Cut left piece after → DecodesTo piece octets → length octets ≡ 48 → length after < length left
full_is_some left [] after octets cut read full =
    let none = decodes_once Base64 [] octets [] read (nothing Base64) in absurd (omega (arith, ap length none))
full_is_some left (c ∷ piece) after octets cut read full = omega (arith, ap length cut.parts, length-append (c ∷ piece) after)

pub ruleset base64_steps = (common_steps, passed_begin, full_is_some)
