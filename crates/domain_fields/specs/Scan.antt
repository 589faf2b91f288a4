-- Data as text: fields in their order, one token for each, and octets that all other tokens spell.
use Rattle.std.specs.Prelude.{◌≡◌, ◌⊎◌, ℕ, [], codes, length, Option, Bool, true, false, ◌∷◌, ◌++◌, ◌&&◌, List, Some, None}
use Rattle.std.specs.{Net.Grammar.IsDotted, List.concat, Fmt.decimal}
use Rattle.domain_base.specs.Scan.{Refusal, Grammar, OneToken, RefusesToken, IsNumber, IsNoNumber, EntryFault, IsEnd}
use Rattle.domain_names.specs.{Text.{ScanFault, illegal, NameTextFault, NameText, name_text}, Name.{Tokens, Token}}
use Rattle.domain_octets.specs.{Octets.{Octets, HasRoom}, Text.{dot, PieceText}}
use Rattle.domain_fields.specs.Layout.{Field, octet, short, long, name, spelled_name, exactly, Value, Layout, one, ◌▸◌, Values}
use Rattle.domain_codecs.specs.{Codec.Decodes, declared.codec.Codec.Codec}

-- ---- grammars of tokens: one grammar after another

-- one grammar after another
abbrev pub Both : {V W : Type 0} → Grammar V → Grammar W → Grammar (V × W)
Both A B old v new = (between : Tokens) × A old v.0 between × B between v.1 new

-- the first grammar has a fault, or the tokens are read by it and then the second has a fault
abbrev pub RefusesBoth : {V : Type 0} → Grammar V → Refusal → Refusal → Refusal
RefusesBoth {V} A RA RB old new fault =
    RA old new fault ⊎ ((v : V) × (between : Tokens) × A old v between × RB between new fault)

-- a grammar that reads tokens in at most one way
pub record ReadsOnce {V : Type 0} (G : Grammar V) : Type 0 where
  pub value : (old m n : Tokens) (v w : V) → G old v m → G old w n → v ≡ w
  pub left : (old m n : Tokens) (v w : V) → G old v m → G old w n → m ≡ n

-- tokens with a fault of their own, which is not lack of room or of memory, are read as no value
abbrev pub Excludes : {V : Type 0} → (ScanFault → Type 0) → Grammar V → Refusal → Type 0
Excludes {V} IsOwn G R =
    (old new after : Tokens) (v : V) (fault : ScanFault) → R old new fault → G old v after
    → IsOwn fault → ⊥

-- tokens have one fault of their own, and it leaves one list of tokens
abbrev pub OneFault : (ScanFault → Type 0) → Refusal → Type 0
OneFault IsOwn R =
    (old m n : Tokens) (x y : ScanFault) → R old m x → R old n y → IsOwn x → IsOwn y
    → (x ≡ y) × (m ≡ n)

pub record IsExact {V : Type 0} (IsOwn : ScanFault → Type 0) (G : Grammar V) (R : Refusal) : Type 0 where
  pub once : ReadsOnce G
  pub apart : Excludes IsOwn G R
  pub one_fault : OneFault IsOwn R

-- all tokens together spell at most one value, and none if they have a fault of their own; they
-- have one such fault, whatever tokens are left after it
pub record IsExactEntry {V : Type 0} (IsOwn : ScanFault → Type 0) (spells : Tokens → V → Type 0)
    (R : Refusal) : Type 0 where
  pub once : (old : Tokens) (v w : V) → spells old v → spells old w → v ≡ w
  pub none : (old new : Tokens) (fault : ScanFault) (v : V) → R old new fault → IsOwn fault
      → spells old v → ⊥
  pub one_fault : (old m n : Tokens) (x y : ScanFault) → R old m x → R old n y → IsOwn x
      → IsOwn y → x ≡ y

-- ---- record data as tokens: fields in their order, one token for each

-- the text of a value; kinds of fields that are not read from one token have none
abbrev pub FieldText : (f : Field) → Token → Value f → Type 0
FieldText octet text n = IsNumber 8 text n
FieldText short text n = IsNumber 16 text n
FieldText long text n = IsNumber 32 text n
FieldText name text labels = NameText text labels
FieldText spelled_name text labels = NameText text labels
FieldText (exactly count) text octets = IsDotted text octets × (length octets ≡ count)
FieldText _ text v = ⊥

-- the text is not an IPv4 address, and this is the fault
pub record IsNoAddress (fault : ScanFault) (text : Token) : Type 0 where
  pub said : fault ≡ illegal (codes "illegal IPv4 address")
  pub none : (octets : Octets) → IsDotted text octets → ⊥

-- the fault of a text that is read as a value of the field, with names in octets with this limit
abbrev pub FieldTextFault : Option ℕ → Field → ScanFault → Token → Type 0
FieldTextFault limit octet = IsNoNumber 8
FieldTextFault limit short = IsNoNumber 16
FieldTextFault limit long = IsNoNumber 32
FieldTextFault limit name = NameTextFault limit
FieldTextFault limit spelled_name = NameTextFault limit
FieldTextFault limit (exactly count) = IsNoAddress
FieldTextFault limit _ = λ fault text. ⊥

-- the tokens begin with the values of a layout, and the new ones are left
abbrev pub Scans : (l : Layout) → Grammar (Values l)
Scans (one f) = OneToken (FieldText f)
Scans (a ▸ b) = Both (Scans a) (Scans b)

-- the fault of the first field that has one, and the tokens left after it
abbrev pub Refuses : Option ℕ → Layout → Refusal
Refuses limit (one f) = RefusesToken (FieldTextFault limit f)
Refuses limit (a ▸ b) = RefusesBoth (Scans a) (Refuses limit a) (Refuses limit b)

-- all tokens together spell the value
abbrev pub AllTokens : {V : Type 0} → (Tokens → V → Type 0) → Grammar V
AllTokens spells old v new = spells old v × (new ≡ [])

-- ---- data as tokens: fields, and then octets that all remaining tokens spell together

-- the tokens spell these fields, by a grammar, and then these octets
pub record Spells {V : Type 0} (G : Grammar V) (codec : Codec) (tokens : Tokens) (v : V)
    (octets : Octets) : Type 0 where
  pub entry : Tokens
  pub fields : G tokens v entry
  pub decoded : Decodes codec (concat entry) octets

-- the fields were read, but the octets have a fault, for a builder with this limit
pub record RefusesEntry {V : Type 0} (G : Grammar V) (limit : Option ℕ) (codec : Codec)
    (old new : Tokens) (fault : ScanFault) : Type 0 where
  pub value : V
  pub entry : Tokens
  pub fields : G old value entry
  pub end_of : IsEnd new entry
  pub why : EntryFault codec limit fault entry

-- fields and octets were read, and the builder had room, but these octets must not follow these
-- fields
pub record IsUnfit {V : Type 0} (G : Grammar V) (limit : Option ℕ) (Unfit : V → Octets → Type 0)
    (message : Octets) (codec : Codec) (old new : Tokens) (fault : ScanFault) : Type 0 where
  pub value : V
  pub octets : Octets
  pub spelled : Spells G codec old value octets
  pub room : HasRoom limit (length octets)
  pub unfit : Unfit value octets
  pub all : new ≡ []
  pub said : fault ≡ illegal message

-- the first fault, and the tokens left after it: of a field, of the octets, or with this message if
-- these octets must not follow the fields
pub data RefusesData {V : Type 0} (G : Grammar V) (R : Refusal) (limit : Option ℕ)
    (Unfit : V → Octets → Type 0) (message : Octets) (codec : Codec)
    (old new : Tokens) (fault : ScanFault) : Type 0 where
  in_field : R old new fault → RefusesData G R limit Unfit message codec old new fault
  in_entry : RefusesEntry G limit codec old new fault
      → RefusesData G R limit Unfit message codec old new fault
  unfit : IsUnfit G limit Unfit message codec old new fault
      → RefusesData G R limit Unfit message codec old new fault

-- ---- the printed form of record data: fields in their order, one token for each

-- whether fields of this kind have a printed form: numbers and names
abbrev pub is_printed_field : Field → Bool
is_printed_field octet = true
is_printed_field short = true
is_printed_field long = true
is_printed_field name = true
is_printed_field spelled_name = true
is_printed_field _ = false

abbrev pub is_printed : Layout → Bool
is_printed (one f) = is_printed_field f
is_printed (a ▸ b) = is_printed a && is_printed b

-- the printed form of a value: a number in decimal digits, or a name with its last dot
abbrev pub printed_field : (f : Field) → Value f → Token
printed_field octet n = decimal n
printed_field short n = decimal n
printed_field long n = decimal n
printed_field name labels = name_text labels ++ dot ∷ []
printed_field spelled_name labels = name_text labels ++ dot ∷ []
printed_field _ v = []

abbrev pub printed : (l : Layout) → Values l → Tokens
printed (one f) v = printed_field f v ∷ []
printed (a ▸ b) v = printed a v.0 ++ printed b v.1

-- ---- pieces of zone file text, if all of them have a printed form

-- some pieces, followed by others
abbrev pub both_pieces : Option (List PieceText) → Option (List PieceText) → Option (List PieceText)
both_pieces (Some first) (Some second) = Some (first ++ second)
both_pieces _ _ = None
