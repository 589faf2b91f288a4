-- What the sink of lines does with a record.
use Rattle.std.specs.Prelude.{◌≡◌, ◌++◌, [], ◌∷◌, map, string_bytes}
use Rattle.domain_includes.specs.Files.{PlacedRecord}
use Rattle.zone_program.specs.{Lines.{text_of_lines, with_lines}, Places.{AreHeld, place_of_record, places_of}}
use Rattle.zone_program.specs.declared.sink.LineSink.{LineSink}

-- a sink took a record: its line and place were appended, if it has a line
pub record TakesZoneLine (old : LineSink) (r : PlacedRecord) (new : LineSink) : Type 0 where
  pub same : new.is_unsigned ≡ old.is_unsigned
  pub text : string_bytes new.lines.text
      ≡ string_bytes old.lines.text ++ text_of_lines (with_lines old.is_unsigned (r ∷ []))
  pub held : AreHeld old.lines → AreHeld new.lines
  pub places : AreHeld old.lines → places_of new.lines
      ≡ places_of old.lines ++ map place_of_record (with_lines old.is_unsigned (r ∷ []))
