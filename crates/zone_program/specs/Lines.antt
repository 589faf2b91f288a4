-- The records of a zone file, and of the files that it includes, as lines, one a record.
use Rattle.std.specs.{Prelude.{◌≡◌, ◌++◌, ◌||◌, ◌==◌, ◌&&◌, ℕ, Bool, List, codes, filter, map, not, string_bytes}, Fmt.decimal, List.concat}
use Rattle.domain_octets.specs.Octets.{Octets}
use Rattle.domain_names.specs.{Name.Name, Text.name_text}
use Rattle.domain_base.specs.Numbers.{class_text, type_text}
use Rattle.domain_base.specs.Types as rtypes
use Rattle.domain_plain.specs.Plain.{generic_text}
use Rattle.domain_zonefile.specs.Records.{FileRecord}
use Rattle.domain_includes.specs.{Files.{Contents, PlacedRecord, ZoneFileRecords}, FileFaults.IsZoneFileFault}
use Rattle.domain_includes.specs.declared.fault.FilesFault.{FilesFault}
use Rattle.domain_includes.specs.declared.fault.FilesFault.TheVariants as files_fault
use Rattle.zone_program.specs.Places.{PlaceOfRecord, place_of_record, places_of}
use Rattle.zone_program.specs.declared.{places.ZoneLines.ZoneLines, fault.ZoneFault.{ZoneFault, TheVariants.{File, OutOfMemory}}}

-- the line of a record: its owner with the last dot, its TTL, class and type, and its data in the
-- generic form (RFC 3597, section 5)
abbrev pub zone_line : FileRecord → Octets
zone_line r =
    name_text r.owner ++ codes ". " ++ decimal r.ttl ++ codes " " ++ class_text r.class ++ codes " "
    ++ type_text r.rtype ++ codes " " ++ generic_text r.octets ++ codes "\n"

-- the types of the records that a signer adds: RRSIG, NSEC, NSEC3 and NSEC3PARAM
abbrev pub is_of_signer : ℕ → Bool
is_of_signer t =
    t == rtypes.rrsig || (t == rtypes.nsec || (t == rtypes.nsec3 || t == rtypes.nsec3param))

-- a record of this type has a line, unless it is a signer's, and these are left out
abbrev pub has_line : Bool → ℕ → Bool
has_line is_unsigned t = not (is_unsigned && is_of_signer t)

-- the records that have lines
abbrev pub with_lines : Bool → List PlacedRecord → List PlacedRecord
with_lines is_unsigned records = filter (λ r. has_line is_unsigned r.read.rtype) records

-- the lines of records, one after another
abbrev pub text_of_lines : List PlacedRecord → Octets
text_of_lines records = concat (map (λ r. zone_line r.read) records)

-- the lines of the records of a zone file at a path, and of the files that it includes, and where
-- the record of each line is
pub record AreZoneLines (gives : Contents) (path file : Octets) (origin : Name) (is_unsigned : Bool)
    (text : Octets) (places : List PlaceOfRecord) : Type 0 where
  pub records : List PlacedRecord
  pub are : ZoneFileRecords gives path file origin records
  pub text_is : text ≡ text_of_lines (with_lines is_unsigned records)
  pub places_are : places ≡ map place_of_record (with_lines is_unsigned records)

abbrev pub AreLinesOf : Contents → Octets → Octets → Name → Bool → ZoneLines → Type 0
AreLinesOf gives path file origin is_unsigned lines =
    AreZoneLines gives path file origin is_unsigned (string_bytes lines.text) (places_of lines)

-- the fault of a zone file as a fault of a run
abbrev pub zone_fault : FilesFault → ZoneFault
zone_fault (files_fault.File fault) = File fault
zone_fault files_fault.OutOfMemory = OutOfMemory

-- why a zone file has no lines: the first fault of its records, or lack of memory
abbrev pub NoLines : Contents → Octets → Octets → Name → ZoneFault → Type 0
NoLines gives path file origin (File fault) =
    IsZoneFileFault gives path file origin (files_fault.File fault)
NoLines gives path file origin OutOfMemory = Unit {0}
NoLines gives path file origin fault = ⊥
