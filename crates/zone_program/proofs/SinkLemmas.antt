-- The lines of the records that a sink took.
use Rattle.std.proofs.Common.{◌≡◌, ◌∙◌, ◌++◌, ◌∷◌, ◌<◌, List, [], All, Bool, length, map, sym, ap, subst}
use Rattle.std.proofs.lemmas.List.{append_assoc, append-nil, map-append}
use Rattle.std.proofs.lemmas.List.{Elements.{All-nil, filter-append}, Folds.concat-append}
use Rattle.std.specs.{Prelude.string_bytes, List.concat}
use Rattle.domain_octets.specs.Octets.{Octets}
use Rattle.domain_names.specs.Name.{Name}
use Rattle.domain_includes.specs.Files.{Contents, PassesFiles, PlacedRecord, TakesAll, took_none, took_one}
use Rattle.zone_program.specs.Lines.{AreLinesOf, has_line, text_of_lines, with_lines, zone_line}
use Rattle.zone_program.specs.Places.{AreHeld, place_held, place_of_record, places_of}
use Rattle.zone_program.specs.Sink.{TakesZoneLine}
use Rattle.zone_program.specs.declared.{places.ZoneLines.ZoneLines, sink.LineSink.LineSink}

-- ---- lines of a record and others

with_more : (is_unsigned : Bool) (r : PlacedRecord) (more : List PlacedRecord)
    → with_lines is_unsigned (r ∷ more) ≡ with_lines is_unsigned (r ∷ []) ++ with_lines is_unsigned more
with_more is_unsigned r more = filter-append (λ x. has_line is_unsigned x.read.rtype) (r ∷ []) more

text_append : (some more : List PlacedRecord) → text_of_lines (some ++ more) ≡ text_of_lines some ++ text_of_lines more
text_append some more =
    ap concat (map-append (λ r. zone_line r.read) some more) ∙ concat-append (map (λ r. zone_line r.read) some) (map (λ r. zone_line r.read) more)

text_more : (is_unsigned : Bool) (r : PlacedRecord) (more : List PlacedRecord)
    → text_of_lines (with_lines is_unsigned (r ∷ more))
    ≡ text_of_lines (with_lines is_unsigned (r ∷ [])) ++ text_of_lines (with_lines is_unsigned more)
text_more is_unsigned r more =
    ap text_of_lines (with_more is_unsigned r more) ∙ text_append (with_lines is_unsigned (r ∷ [])) (with_lines is_unsigned more)

places_more : (is_unsigned : Bool) (r : PlacedRecord) (more : List PlacedRecord)
    → map place_of_record (with_lines is_unsigned (r ∷ more))
    ≡ map place_of_record (with_lines is_unsigned (r ∷ [])) ++ map place_of_record (with_lines is_unsigned more)
places_more is_unsigned r more =
    ap (map place_of_record) (with_more is_unsigned r more)
    ∙ map-append place_of_record (with_lines is_unsigned (r ∷ [])) (with_lines is_unsigned more)

-- ---- records in order

-- what the sink has after these records
pub record TookLines (old : LineSink) (records : List PlacedRecord) (new : LineSink) : Type 0 where
  pub text : string_bytes new.lines.text ≡ string_bytes old.lines.text ++ text_of_lines (with_lines old.is_unsigned records)
  pub places : AreHeld old.lines → places_of new.lines ≡ places_of old.lines ++ map place_of_record (with_lines old.is_unsigned records)

pub took_lines : (old new : LineSink) (records : List PlacedRecord) → TakesAll TakesZoneLine old records new → TookLines old records new
took_lines old new [] (took_none s) = record { text = sym (append-nil _); places = λ held. sym (append-nil _) }
took_lines old new (r ∷ more) (took_one o between n r' more' first others) =
    let rest = took_lines between new more others in record {
      text = rest.text ∙ ap (λ u. string_bytes between.lines.text ++ text_of_lines (with_lines u more)) first.same
          ∙ ap (λ t. t ++ text_of_lines (with_lines old.is_unsigned more)) first.text
          ∙ append_assoc (string_bytes old.lines.text) _ _
          ∙ ap (λ t. string_bytes old.lines.text ++ t) (sym (text_more old.is_unsigned r more));
      places = λ held. rest.places (first.held held)
          ∙ ap (λ u. places_of between.lines ++ map place_of_record (with_lines u more)) first.same
          ∙ ap (λ t. t ++ map place_of_record (with_lines old.is_unsigned more)) (first.places held)
          ∙ append_assoc (places_of old.lines) _ _
          ∙ ap (λ t. places_of old.lines ++ t) (sym (places_more old.is_unsigned r more));
    }

-- ---- a whole file

-- the lines of a sink that had none, and took the records of a file
pub lines_made : (gives : Contents) (path file : Octets) (origin : Name) (is_unsigned : Bool) (old new : LineSink) (lines : ZoneLines)
    → PassesFiles gives TakesZoneLine path file origin old new → old.is_unsigned ≡ is_unsigned → string_bytes old.lines.text ≡ []
    → old.lines.places.items ≡ [] → lines ≡ new.lines → AreLinesOf gives path file origin is_unsigned lines
lines_made gives path file origin is_unsigned old new lines passed flag text none is =
    let took = took_lines old new passed.records passed.taken in
    let held : AreHeld old.lines = subst (λ ps. All (λ held. held.file < length old.lines.paths.items) ps) (sym none) (All-nil _) in
    let none_placed : places_of old.lines ≡ [] = ap (map (place_held old.lines.paths.items)) none in record {
      records = passed.records;
      are = passed.are;
      text_is = ap (λ l. string_bytes l.text) is ∙ took.text
          ∙ ap (λ t. t ++ text_of_lines (with_lines old.is_unsigned passed.records)) text
          ∙ ap (λ u. text_of_lines (with_lines u passed.records)) flag;
      places_are = ap places_of is ∙ took.places held
          ∙ ap (λ t. t ++ map place_of_record (with_lines old.is_unsigned passed.records)) none_placed
          ∙ ap (λ u. map place_of_record (with_lines u passed.records)) flag;
    }
