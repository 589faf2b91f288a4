-- an entry of a zone file that is one record in one line (RFC 1035, section 5.1), and why a line is
-- not one
use Rattle.std.specs.Prelude.{◌≡◌, ◌≢◌, ℕ, Option, [], ◌∷◌, slice_index}
use Rattle.domain_octets.specs.{Text.{semicolon, words_of}, Octets.Octets}
use Rattle.domain_base.specs.{Numbers.{ClassText, TypeText, IsNoClass, IsNoType}, Scan.{TakesToken, RefusesToken, IsNumber, IsNoNumber}}
use Rattle.domain_names.specs.{Text.{IsOfTokens, NameTextFault, scan_fault_of, NameText}, Name.{Name, Tokens}}
use Rattle.domain_record.specs.declared.record.Record.{Record}
use Rattle.domain_rdata.specs.{Scan.{RefusesRdata, RdataText}, declared.zone_record_data.ZoneRecordData.ZoneRecordData}
use Rattle.domain_message.specs.declared.line.LineError.{LineError, TheVariants.{NoEntry, Owner, Ttl, Class, Rtype, RecordData, Trailing, OutOfMemory}}

-- the tokens begin with a name, a TTL, a class or a type, and the other tokens are left
abbrev pub OwnerTaken : Name → Tokens → Tokens → Type 0
OwnerTaken owner = TakesToken (λ token. NameText token owner)

abbrev pub TtlTaken : ℕ → Tokens → Tokens → Type 0
TtlTaken ttl = TakesToken (λ token. IsNumber 32 token ttl)

abbrev pub ClassTaken : ℕ → Tokens → Tokens → Type 0
ClassTaken class = TakesToken (λ token. ClassText token class)

abbrev pub TypeTaken : ℕ → Tokens → Tokens → Type 0
TypeTaken rtype = TakesToken (λ token. TypeText token rtype)

-- the tokens begin with a TTL, a class and a type, one after another, and the others are left
pub record NumbersTaken (ttl class rtype : ℕ) (tokens after : Tokens) : Type 0 where
  pub behind_ttl : Tokens
  pub behind_class : Tokens
  pub timed : TtlTaken ttl tokens behind_ttl
  pub classed : ClassTaken class behind_ttl behind_class
  pub typed : TypeTaken rtype behind_class after

-- the tokens spell the part of a record after its owner: its TTL, class, type and data, and nothing
-- more
pub record BodyText {O N : Type 0} (octets : O → Octets) (labels : N → Name) (tokens : Tokens)
    (ttl class : ℕ) (d : ZoneRecordData O N) : Type 0 where
  pub rtype : ℕ
  pub data_tokens : Tokens
  pub numbers : NumbersTaken ttl class rtype tokens data_tokens
  pub spelled : RdataText octets labels rtype data_tokens d []

-- the tokens spell a record: its owner, and the part after it
pub record EntryText {O N : Type 0} (octets : O → Octets) (labels : N → Name) (tokens : Tokens)
    (r : Record N (ZoneRecordData O N)) : Type 0 where
  pub behind : Tokens
  pub owned : OwnerTaken (labels r.owner) tokens behind
  pub body : BodyText octets labels behind r.ttl r.class r.«data»

-- a line with these words is blank, or a comment
abbrev pub IsNoEntry : Tokens → Type 0
IsNoEntry [] = Unit {0}
IsNoEntry (word ∷ words) = slice_index word 0 ≡ semicolon

-- the line is an entry that spells the record
pub record EntryLineText {O N : Type 0} (octets : O → Octets) (labels : N → Name) (line : Octets)
    (r : Record N (ZoneRecordData O N)) : Type 0 where
  pub seen : IsNoEntry (words_of line) → ⊥
  pub spelled : EntryText octets labels (words_of line) r

-- why tokens do not spell the part of a record after its owner: one of the three numbers or the
-- data is rejected, or tokens are left after the data
unfoldable pub RefusesBody : {O N : Type 0} → (O → Octets) → (N → Name) → Option ℕ → Tokens
    → LineError → Type 0
RefusesBody octets labels limit tokens (Ttl e) =
    (left : Tokens) × RefusesToken (IsNoNumber 32) tokens left (scan_fault_of e)
RefusesBody octets labels limit tokens (Class e) =
    (ttl : ℕ) × (behind left : Tokens) × TtlTaken ttl tokens behind
    × RefusesToken IsNoClass behind left (scan_fault_of e)
RefusesBody octets labels limit tokens (Rtype e) =
    (ttl class : ℕ) × (between behind left : Tokens) × TtlTaken ttl tokens between
    × ClassTaken class between behind × RefusesToken IsNoType behind left (scan_fault_of e)
RefusesBody octets labels limit tokens (RecordData e) =
    (ttl class rtype : ℕ) × (after left : Tokens) × NumbersTaken ttl class rtype tokens after
    × RefusesRdata limit rtype after left (scan_fault_of e)
RefusesBody {O} {N} octets labels limit tokens Trailing =
    (ttl class rtype : ℕ) × (after left : Tokens) × (d : ZoneRecordData O N)
    × NumbersTaken ttl class rtype tokens after
    × RdataText octets labels rtype after d left × (left ≢ [])
RefusesBody octets labels limit tokens _ = ⊥

-- why tokens do not spell a record: the first is not an owner, or the others do not spell the part
-- after it
abbrev pub RefusesRecordText : {O N : Type 0} → (O → Octets) → (N → Name) → Option ℕ → Tokens
    → LineError → Type 0
RefusesRecordText octets labels limit tokens (Owner e) =
    (left : Tokens) × RefusesToken (NameTextFault limit) tokens left (scan_fault_of e)
RefusesRecordText octets labels limit tokens error =
    (owner : Name) × (behind : Tokens) × OwnerTaken owner tokens behind
    × RefusesBody octets labels limit behind error

-- an error in the tokens, not of room or of memory
abbrev pub IsOfLine : Option ℕ → LineError → Type 0
IsOfLine limit (Owner e) = IsOfTokens limit (scan_fault_of e)
IsOfLine limit (Ttl e) = IsOfTokens limit (scan_fault_of e)
IsOfLine limit (Class e) = IsOfTokens limit (scan_fault_of e)
IsOfLine limit (Rtype e) = IsOfTokens limit (scan_fault_of e)
IsOfLine limit (RecordData e) = IsOfTokens limit (scan_fault_of e)
IsOfLine limit OutOfMemory = ⊥
IsOfLine limit _ = Unit {0}

-- why a line does not spell a record; a blank line and a comment are never reported as out of memory
pub data RefusesLine {O N : Type 0} (octets : O → Octets) (labels : N → Name) (limit : Option ℕ)
    (line : Octets) (error : LineError) : Type 0 where
  no_entry : IsNoEntry (words_of line) → error ≡ NoEntry
      → RefusesLine octets labels limit line error
  in_entry : (IsNoEntry (words_of line) → ⊥)
      → RefusesRecordText octets labels limit (words_of line) error
      → RefusesLine octets labels limit line error
  no_memory : (IsNoEntry (words_of line) → ⊥) → error ≡ OutOfMemory
      → RefusesLine octets labels limit line error
