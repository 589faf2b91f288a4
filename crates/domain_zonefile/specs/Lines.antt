-- The directives of a zone file, and what an entry is: a record or a directive (RFC 1035, section
-- 5.1; RFC 2308, section 4; $GENERATE is BIND's).
use Rattle.std.specs.Prelude.{◌≡◌, ℕ, ◌==◌, ◌&&◌, Bool, true, false, not, List, [], ◌∷◌, Option, Some, None, if◌then◌else◌, codes}
use Rattle.domain_octets.specs.{Octets.Octets, Text.dollar}
use Rattle.domain_names.specs.Name.{Name}
use Rattle.domain_base.specs.Numbers.{same_text}
use Rattle.domain_types.specs.Reading.{TokenText, SpellsName}
use Rattle.domain_zonefile.specs.Fields.{ttl_field}
use Rattle.domain_zonefile.specs.Records.{State, FirstNameFault, ReadsRecord, RecordFault}
use Rattle.domain_zonefile.specs.declared.fault.EntryFaultKind.{EntryFaultKind}
use Rattle.domain_zonefile.specs.declared.fault.EntryFaultKind.TheVariants.{LargeTtl, UnknownDirective, MissingArgument, ExtraArgument, NotTtl, OutOfMemory}
use Rattle.domain_zonefile.specs.declared.line.Directive.{Directive}
use Rattle.domain_zonefile.specs.declared.line.Directive.TheVariants as directives
use Rattle.domain_zonefile.specs.declared.{line.Line.Line, state.RecordFields.RecordFields}
use Rattle.domain_zonefile.specs.declared.line.Line.TheVariants as lines
use Rattle.domain_types.specs.declared.ttl.TtlText.TheVariants.{NoTtl, TooLarge, Seconds}

-- ---- directives

abbrev pub begins_with_dollar : Octets → Bool
begins_with_dollar [] = false
begins_with_dollar (c ∷ text) = c == dollar

-- the entry is a directive: it is not indented, and its first token is not quoted and begins with a
-- dollar
abbrev pub is_directive : Bool → List TokenText → Bool
is_directive is_indented [] = false
is_directive is_indented (token ∷ tokens) =
    not is_indented && (not token.is_quoted && begins_with_dollar token.octets)

-- the directive of a word, in either case
abbrev pub directive_of : Octets → Option Directive
directive_of word =
    if same_text word (codes "$ORIGIN") then Some directives.Origin
    else (if same_text word (codes "$TTL") then Some directives.DefaultTtl
    else (if same_text word (codes "$INCLUDE") then Some directives.Include
    else (if same_text word (codes "$GENERATE") then Some directives.Generate else None)))

abbrev pub first_directive : List TokenText → Option Directive
first_directive [] = None
first_directive (token ∷ tokens) = directive_of token.octets

-- ---- what directives say

-- $ORIGIN and a name, relative to the origin before
abbrev pub SetsOrigin : State → List TokenText → State → Type 0
SetsOrigin s (word ∷ token ∷ []) after =
    SpellsName s.origin token after.origin
    × (after ≡ record {
      origin = after.origin;
      owner = s.owner;
      default_ttl = s.default_ttl;
      last_ttl = s.last_ttl;
      last_class = s.last_class;
    })
SetsOrigin s tokens after = ⊥

abbrev pub OriginFault : State → List TokenText → ℕ → EntryFaultKind → Type 0
OriginFault s [] place kind = ⊥
OriginFault s (word ∷ []) place kind = (place ≡ 1) × (kind ≡ MissingArgument)
OriginFault s (word ∷ token ∷ []) place kind =
    (place ≡ 1) × FirstNameFault s.origin (token ∷ []) kind
OriginFault s (word ∷ token ∷ other ∷ more) place kind = (place ≡ 2) × (kind ≡ ExtraArgument)

-- $TTL and a TTL
abbrev pub SetsTtl : State → List TokenText → State → Type 0
SetsTtl s (word ∷ token ∷ []) after =
    (ttl : ℕ) × (ttl_field token ≡ Seconds ttl)
    × (after ≡ record {
      origin = s.origin;
      owner = s.owner;
      default_ttl = Some ttl;
      last_ttl = s.last_ttl;
      last_class = s.last_class;
    })
SetsTtl s tokens after = ⊥

-- the token is no TTL, or one of more than 32 bits
abbrev pub TtlFault : TokenText → EntryFaultKind → Type 0
TtlFault token NotTtl = ttl_field token ≡ NoTtl
TtlFault token LargeTtl = ttl_field token ≡ TooLarge
TtlFault token kind = ⊥

abbrev pub DefaultFault : List TokenText → ℕ → EntryFaultKind → Type 0
DefaultFault [] place kind = ⊥
DefaultFault (word ∷ []) place kind = (place ≡ 1) × (kind ≡ MissingArgument)
DefaultFault (word ∷ token ∷ []) place kind = (place ≡ 1) × TtlFault token kind
DefaultFault (word ∷ token ∷ other ∷ more) place kind = (place ≡ 2) × (kind ≡ ExtraArgument)

-- $INCLUDE, a file, and the origin of its entries, which is that of this file if none is given
abbrev pub Includes : State → List TokenText → Name → Type 0
Includes s (word ∷ file ∷ []) origin = origin ≡ s.origin
Includes s (word ∷ file ∷ token ∷ []) origin = SpellsName s.origin token origin
Includes s tokens origin = ⊥

abbrev pub IncludeFault : State → List TokenText → ℕ → EntryFaultKind → Type 0
IncludeFault s [] place kind = ⊥
IncludeFault s (word ∷ []) place kind = (place ≡ 1) × (kind ≡ MissingArgument)
IncludeFault s (word ∷ file ∷ []) place kind = (place ≡ 1) × (kind ≡ OutOfMemory)
IncludeFault s (word ∷ file ∷ token ∷ []) place kind =
    (place ≡ 2) × FirstNameFault s.origin (token ∷ []) kind
IncludeFault s (word ∷ file ∷ token ∷ other ∷ more) place kind =
    (place ≡ 3) × (kind ≡ ExtraArgument)

-- ---- entries

-- a directive with this first token means this
abbrev pub IsDirectiveLine : State → List TokenText → Option Directive → Line → State → Type 0
IsDirectiveLine s tokens (Some directives.Origin) lines.Origin after = SetsOrigin s tokens after
IsDirectiveLine s tokens (Some directives.DefaultTtl) lines.DefaultTtl after = SetsTtl s tokens after
IsDirectiveLine s tokens (Some directives.Include) (lines.Include origin) after =
    Includes s tokens origin × (after ≡ s)
IsDirectiveLine s tokens (Some directives.Generate) lines.Generate after = after ≡ s
IsDirectiveLine s tokens word line after = ⊥

abbrev pub DirectiveFault : State → List TokenText → Option Directive → ℕ → EntryFaultKind → Type 0
DirectiveFault s tokens None place kind = (place ≡ 0) × (kind ≡ UnknownDirective)
DirectiveFault s tokens (Some directives.Origin) place kind = OriginFault s tokens place kind
DirectiveFault s tokens (Some directives.DefaultTtl) place kind = DefaultFault tokens place kind
DirectiveFault s tokens (Some directives.Include) place kind = IncludeFault s tokens place kind
DirectiveFault s tokens (Some directives.Generate) place kind = ⊥

-- the entry was read as this, with its data appended and this said after it
pub data ReadsLine (s : State) (is_indented : Bool) (tokens : List TokenText) (old new : Octets)
    (after : State) : Line → Type 0 where
  record_line : (fields : RecordFields) → is_directive is_indented tokens ≡ false
      → ReadsRecord s is_indented tokens fields old new after
      → ReadsLine s is_indented tokens old new after (lines.Record fields)
  directive_line : (line : Line) → is_directive is_indented tokens ≡ true
      → IsDirectiveLine s tokens (first_directive tokens) line after → new ≡ old
      → ReadsLine s is_indented tokens old new after line

-- the first fault of an entry
pub data LineFault (s : State) (is_indented : Bool) (tokens : List TokenText) (place : ℕ)
    (kind : EntryFaultKind) : Type 0 where
  in_record : is_directive is_indented tokens ≡ false
      → RecordFault s is_indented tokens place kind → LineFault s is_indented tokens place kind
  in_directive : is_directive is_indented tokens ≡ true
      → DirectiveFault s tokens (first_directive tokens) place kind
      → LineFault s is_indented tokens place kind
