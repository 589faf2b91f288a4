-- An entry `$GENERATE RANGE OWNER [TTL] [CLASS] TYPE DATA`, the text of each of its values, and its
-- first fault.
use Rattle.std.specs.Prelude.{ℕ, ◌+◌, false, List, [], ◌∷◌, ◌++◌, Option, Some, None, Result, Ok, Err, if◌then◌else◌, nat_lt, drop, codes}
use Rattle.std.specs.Fmt.{decimal}
use Rattle.domain_octets.specs.{Octets.Octets, Text.{space, line_feed}}
use Rattle.domain_types.specs.Reading.{TokenText}
use Rattle.domain_zonefile.specs.{Fields.prefix_of, declared.fields.{Prefix.Prefix, LargeTtl.LargeTtl}}
use Rattle.domain_generate.specs.{Ranges.{range_of, value_count, last_value}, Patterns.{pattern_parts, pattern_fault, substituted}}
use Rattle.domain_generate.specs.declared.{range.ValueRange.ValueRange, fault.GenerateFault.GenerateFault}
use Rattle.domain_generate.specs.declared.fault.GenerateFaultKind.{GenerateFaultKind, TheVariants.{MissingArgument, ExtraArgument, QuotedArgument}}
use Rattle.domain_generate.specs.declared.fault.GenerateFaultKind.TheVariants.{NotRange, ManyValues, NotFormat, NegativeNumber, LargeNumber}
use Rattle.domain_generate.specs.declared.fault.GenerateFaultKind.TheVariants as generate_kind

-- an entry: its values, the pattern of the owner, the TTL and the class, the type, and the pattern
-- of the data
pub record Generated : Type 0 where
  pub range : ValueRange
  pub owner : Octets
  pub prefix : Prefix
  pub rtype : Octets
  pub pattern : TokenText

-- ---- the text of a value

-- the TTL of an entry, in seconds
abbrev pub ttl_text_of : Option ℕ → Octets
ttl_text_of None = []
ttl_text_of (Some ttl) = decimal ttl ++ space ∷ []

-- the class of an entry, by its number
abbrev pub class_text_of : Option ℕ → Octets
class_text_of None = []
class_text_of (Some class) = codes "CLASS" ++ decimal class ++ space ∷ []

-- what is between the owner and the data
abbrev pub fields_text : Prefix → Octets → Octets
fields_text prefix rtype =
    space ∷ (ttl_text_of prefix.ttl ++ (class_text_of prefix.class ++ (rtype ++ space ∷ [])))

-- the line of a value: OWNER TTL CLASS TYPE DATA
abbrev pub generated_line : Generated → ℕ → Octets
generated_line g value =
    substituted false value g.owner ++ (fields_text g.prefix g.rtype
    ++ (substituted g.pattern.is_quoted value g.pattern.octets ++ line_feed ∷ []))

-- ---- what the tokens of an entry say

-- the second step if the first is without a fault
abbrev pub result_then : {A B : Type 0} → Result A GenerateFault → (A → Result B GenerateFault) → Result B GenerateFault
result_then (Ok a) next = next a
result_then (Err e) next = Err e

abbrev pub generate_fault : {A : Type 0} → ℕ → GenerateFaultKind → Result A GenerateFault
generate_fault token kind = Err (record { token = token; kind = kind })

-- the first of these tokens, which are behind so many others
abbrev pub argument_in : List TokenText → ℕ → Result TokenText GenerateFault
argument_in [] at = generate_fault at MissingArgument
argument_in (token ∷ tokens) at = Ok token

abbrev pub argument_at : List TokenText → ℕ → Result TokenText GenerateFault
argument_at tokens at = argument_in (drop at tokens) at

-- the token of this number, without quotes
abbrev pub unquoted_at : List TokenText → ℕ → Result Octets GenerateFault
unquoted_at tokens at =
    result_then (argument_at tokens at) (λ token.
    if token.is_quoted then generate_fault at QuotedArgument else Ok token.octets)

-- the range, if it has at most 65,536 values
abbrev pub checked_values : Option ValueRange → Result ValueRange GenerateFault
checked_values None = generate_fault 1 NotRange
checked_values (Some range) =
    if nat_lt 65536 (value_count range) then generate_fault 1 ManyValues else Ok range

-- the first token behind `$GENERATE`
abbrev pub range_argument : List TokenText → Result ValueRange GenerateFault
range_argument tokens = result_then (unquoted_at tokens 1) (λ text. checked_values (range_of text))

-- the token, unless its pattern has a fault
abbrev pub faultless : {A : Type 0} → ℕ → Option GenerateFaultKind → A → Result A GenerateFault
faultless at None a = Ok a
faultless at (Some kind) a = generate_fault at kind

abbrev pub fault_of_pattern : ValueRange → Octets → Option GenerateFaultKind
fault_of_pattern range pattern =
    pattern_fault range.start (last_value range) (pattern_parts pattern)

-- the owner
abbrev pub owner_argument : List TokenText → ValueRange → Result Octets GenerateFault
owner_argument tokens range =
    result_then (unquoted_at tokens 2) (λ octets.
    faultless 2 (fault_of_pattern range octets) octets)

abbrev pub checked_prefix : Result Prefix LargeTtl → Result Prefix GenerateFault
checked_prefix (Ok prefix) = Ok prefix
checked_prefix (Err e) = generate_fault (3 + e.token) generate_kind.LargeTtl

-- the TTL and the class behind the owner
abbrev pub prefix_arguments : List TokenText → Result Prefix GenerateFault
prefix_arguments tokens = checked_prefix (prefix_of (drop 3 tokens))

-- the data: one token
abbrev pub data_argument : List TokenText → ℕ → ValueRange → Result TokenText GenerateFault
data_argument tokens at range =
    result_then (argument_at tokens at) (λ token.
    faultless at (fault_of_pattern range token.octets) token)

-- no token follows
abbrev pub fault_of_more : List TokenText → Option GenerateFaultKind
fault_of_more [] = None
fault_of_more (token ∷ tokens) = Some ExtraArgument

-- what the tokens of an entry say, or its first fault
abbrev pub generation_of : List TokenText → Result Generated GenerateFault
generation_of tokens =
    result_then (range_argument tokens) (λ range.
    result_then (owner_argument tokens range) (λ owner.
    result_then (prefix_arguments tokens) (λ prefix.
    result_then (unquoted_at tokens (3 + prefix.count)) (λ rtype.
    result_then (data_argument tokens (4 + prefix.count) range) (λ pattern.
    faultless (5 + prefix.count) (fault_of_more (drop (5 + prefix.count) tokens))
    (record {
      range = range;
      owner = owner;
      prefix = prefix;
      rtype = rtype;
      pattern = pattern;
    }))))))

-- ---- texts of faults

abbrev pub generate_fault_text : GenerateFaultKind → Octets
generate_fault_text MissingArgument = codes "an argument of $GENERATE is missing"
generate_fault_text ExtraArgument = codes "$GENERATE has data of one token: quote them"
generate_fault_text QuotedArgument = codes "only the data of $GENERATE may be in quotes"
generate_fault_text NotRange = codes "not a range: expected START-STOP or START-STOP/STEP"
generate_fault_text ManyValues = codes "a range of more than 65536 values"
generate_fault_text generate_kind.LargeTtl = codes "TTL of more than 32 bits"
generate_fault_text NotFormat = codes "bad format: expected ${OFFSET,WIDTH,BASE}"
generate_fault_text NegativeNumber = codes "a value with its offset is below 0"
generate_fault_text LargeNumber = codes "a value with its offset is above 2147483647"
