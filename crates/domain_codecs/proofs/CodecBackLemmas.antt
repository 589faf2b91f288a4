-- what octets are written as in Base 16 and Base 64 is read back, and a text is read in one way
use Rattle.std.proofs.{Common.{◌≡◌, ℕ, ◌<◌, List, All, get_or, refl, arith}, lemmas.Grind.common_steps}
use Rattle.hex.{specs.Hex.{encode_lower, encode_upper}, proofs.HexLemmas.{decode_of-encode_lower, decode_of-encode_upper}}
use Rattle.base64.{specs.{GeneralPurpose.encode_of, Engines.standard}, proofs.EngineFacts.decode_of-encode_of}
use Rattle.domain_codecs.specs.{Codec.Decodes, declared.codec.Codec.{Codec, TheVariants.{Base16, Base64}}}

-- what stands past the end is 0
bytes : (octets : List ℕ) → All (λ octet. octet < 256) octets → (i : ℕ) → get_or octets i 0 < 256
bytes octets small i = grind (arith, common_steps)

pub lower_back : (octets : List ℕ) → All (λ octet. octet < 256) octets → Decodes Base16 (encode_lower octets) octets
lower_back octets small = decode_of-encode_lower octets (bytes octets small)

pub upper_back : (octets : List ℕ) → All (λ octet. octet < 256) octets → Decodes Base16 (encode_upper octets) octets
upper_back octets small = decode_of-encode_upper octets (bytes octets small)

pub base64_back : (octets : List ℕ) → All (λ octet. octet < 256) octets → Decodes Base64 (encode_of standard octets) octets
base64_back octets small = decode_of-encode_of standard octets refl (bytes octets small)

pub decodes_once : (codec : Codec) (text x y : List ℕ) → Decodes codec text x → Decodes codec text y → x ≡ y
decodes_once codec text x y one other = grind (arith, common_steps)
