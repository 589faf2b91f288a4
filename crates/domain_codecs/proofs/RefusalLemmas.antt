-- a text that is refused stands for no octets
use Rattle.std.{proofs.Common.{◌≡◌, ℕ, List, [], ◌∷◌, true, refl, sym, arith, Option, Some, None, Result}, specs.Prelude.{◌↔◌, IsErrOf, IsErrAnd}}
use Rattle.std.{specs.List.{AllPass, list_all}, proofs.lemmas.{List.Sums.{AllPass-from_list_all, list_all-from_AllPass}, Grind.common_steps}}
use Rattle.hex.proofs.HexLemmas.{decode_of-ok}
use Rattle.domain_codecs.specs.{declared.codec.Codec.{Codec, TheVariants.{Base16, Base32Hex, Base64}}, Codec.{is_digit, Decodes, first_other, HasBadChar}}
use Rattle.domain_codecs.specs.{Codec.{HasBadLength, HasNoRoom, TextFault}, declared.codec.DecodeError.{DecodeError, TheVariants.ShortBuf}}

-- a text without another character is one of digits
none_other : (codec : Codec) (text : List ℕ) → list_all (is_digit codec) text ≡ true ↔ first_other codec text ≡ None
unfolding first_other
none_other codec [] = (λ all. refl, λ none. refl)
none_other codec (c ∷ text) = grind (arith, common_steps, (none_other codec text))

pub digits_alone : (codec : Codec) (text : List ℕ) → None ≡ first_other codec text → AllPass (is_digit codec) text
digits_alone codec text none = AllPass-from_list_all (is_digit codec) text ((none_other codec text).1 (sym none))

other_passes : (codec : Codec) (text : List ℕ) (c : ℕ) → first_other codec text ≡ Some c → AllPass (is_digit codec) text → ⊥
other_passes codec text c first all = let none = (none_other codec text).0 (list_all-from_AllPass (is_digit codec) text all) in cc

pub refused_char : (codec : Codec) (text : List ℕ) (c : ℕ) → HasBadChar codec text c → (octets : List ℕ) → Decodes codec text octets → ⊥
refused_char Base16 text c refused octets decoded = other_passes Base16 text c refused.1 (decode_of-ok text octets decoded).1
refused_char Base32Hex text c refused octets decoded = other_passes Base32Hex text c refused decoded.digits
refused_char Base64 text c refused octets decoded = refused.0 octets decoded

pub refused_length : (codec : Codec) (text : List ℕ) → HasBadLength codec text → (octets : List ℕ) → Decodes codec text octets → ⊥
refused_length codec text refused octets decoded = grind (arith, common_steps)

-- a text that is refused is not refused for room
pub refused_for_itself : {Y : Type 0} (codec : Codec) (limit : Option ℕ) (text : List ℕ) (e : DecodeError)
    (r : Result Y DecodeError) → IsErrAnd r (λ y. y ≡ e) → TextFault codec text e
    → IsErrOf r ShortBuf ↔ HasNoRoom codec limit text
refused_for_itself codec limit text e r is why = grind (arith, common_steps, refused_char)
