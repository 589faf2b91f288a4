-- The record that words spell.
use Rattle.std.specs.Prelude.{◌≡◌}
use Rattle.domain_octets.specs.Octets.{Octets}
use Rattle.domain_names.specs.Name.{Name, Tokens}
use Rattle.domain_record.specs.declared.record.Record.{Record}
use Rattle.domain_rdata.specs.declared.zone_record_data.ZoneRecordData.{ZoneRecordData}
use Rattle.domain_message.specs.Entry.{EntryText}
use Rattle.domain_borrowed.specs.Data.{RawRecord}
use Rattle.domain_any_order.specs.RawRecords.{raw_record}

abbrev pub SpelledRecord : Type 0
SpelledRecord = Record Name (ZoneRecordData Octets Name)

-- the words spell the record: its owner, TTL, class, type and data (RFC 1035, section 5.1)
abbrev pub SpellsRecord : Tokens → SpelledRecord → Type 0
SpellsRecord = EntryText (λ o. o) (λ n. n)

-- the words spell a record with data whose canonical form has the octets of this one (RFC 4034,
-- section 6.2)
pub record LineText (ws : Tokens) (r : RawRecord) : Type 0 where
  pub spelled : SpelledRecord
  pub are : SpellsRecord ws spelled
  pub raw : raw_record (λ o. o) (λ n. n) spelled ≡ r
