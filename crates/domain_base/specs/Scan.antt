-- The tokens of an entry, and what is read from them.
use Rattle.std.specs.{Prelude.{◌≡◌, ℕ, ◌<◌, ◌^◌, [], ◌∷◌, ◌++◌, codes, Option, IsNone, Result, IfOk, IfErr}, Str.Parse.{IsNumeral, digits_value}, List.concat}
use Rattle.domain_codecs.specs.{Codec.{Decodes, IsText, HasNoRoom}, declared.codec.Codec.Codec}
use Rattle.domain_octets.specs.Octets.{Octets}
use Rattle.domain_names.specs.{Text.{ScanFault, entry_ends, illegal, no_room, no_memory, scan_fault_of}, Name.{Tokens, Token}}
use Rattle.domain_names.specs.declared.error.ScanError.{ScanError}

-- the first token was read, and P holds for it
pub record TakesToken (P : Token → Type 0) (old new : Tokens) : Type 0 where
  pub token : Token
  pub first : old ≡ token ∷ new
  pub holds : P token

-- there was no token, or the first was read and has this fault
pub data RefusesToken (Why : ScanFault → Token → Type 0) : Tokens → Tokens → ScanFault
    → Type 0 where
  ended : RefusesToken Why [] [] entry_ends
  refused : (token : Token) (left : Tokens) (fault : ScanFault) → Why fault token
      → RefusesToken Why (token ∷ left) left fault

-- the text is one or more decimal digits, and spells this number, which has at most `bits` bits
pub record IsNumber (bits : ℕ) (text : Octets) (n : ℕ) : Type 0 where
  pub digits : IsNumeral 10 text
  pub fits : digits_value 10 text < 2 ^ bits
  pub value : n ≡ digits_value 10 text

-- the text spells no such number, and this is the fault
pub record IsNoNumber (bits : ℕ) (fault : ScanFault) (text : Octets) : Type 0 where
  pub said : fault ≡ illegal (codes "decimal number expected")
  pub none : (n : ℕ) → IsNumber bits text n → ⊥

-- the new tokens are an end of the old ones
pub record IsEnd (new old : Tokens) : Type 0 where
  pub front : Tokens
  pub joined : old ≡ front ++ new

-- the fault of a text that is decoded into octets with this limit: a fault of the text comes first,
-- and then lack of room; memory can run out only if the text is valid and the octets have no limit
abbrev pub CodecFault : Codec → Option ℕ → ScanFault → Octets → Type 0
CodecFault codec limit entry_ends text = ⊥
CodecFault codec limit (illegal said) text =
    (said ≡ codes "illegal data") × ((octets : Octets) → Decodes codec text octets → ⊥)
CodecFault codec limit no_room text = HasNoRoom codec limit text
CodecFault codec limit no_memory text = IsText codec text × IsNone limit

-- the first token encodes octets for which a builder with this limit has no room
abbrev pub TokenHasNoRoom : Codec → Option ℕ → Tokens → Type 0
TokenHasNoRoom codec limit [] = ⊥
TokenHasNoRoom codec limit (token ∷ tokens) = HasNoRoom codec limit token

-- the fault of tokens that are joined and decoded into octets with this limit
abbrev pub EntryFault : Codec → Option ℕ → ScanFault → Tokens → Type 0
EntryFault codec limit fault tokens = CodecFault codec limit fault (concat tokens)

-- the tokens begin with the text of a value, and the others are left
abbrev pub Grammar : Type 0 → Type 1
Grammar V = Tokens → V → Tokens → Type 0

-- the tokens have a fault, and others are left
abbrev pub Refusal : Type 1
Refusal = Tokens → Tokens → ScanFault → Type 0

-- the tokens begin with one that spells the value, and the others are left
abbrev pub OneToken : {V : Type 0} → (Token → V → Type 0) → Grammar V
OneToken spells old v new = TakesToken (λ text. spells text v) old new

-- the result of reading a value from tokens: the value, or the fault of the tokens, and the tokens
-- that are left
pub record ReadsTokens {D V : Type 0} (G : Grammar V) (value : D → V) (R : Refusal)
    (old new : Tokens) (result : Result D ScanError) : Type 0 where
  pub ok : IfOk result (λ d. G old (value d) new)
  pub err : IfErr result (λ e. R old new (scan_fault_of e))
