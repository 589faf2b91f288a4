-- What a run of the program does.
use Rattle.std.specs.Prelude.{◌≡◌, Bool, true, false, List, [], ◌∷◌, Option, IfSome, codes}
use Rattle.domain_octets.specs.Octets.{Octets}
use Rattle.domain_names.specs.{Name.{Name, Tokens}, Text.NameText}
use Rattle.domain_includes.specs.Files.{Contents}
use Rattle.zone_program.specs.{Lines.{AreZoneLines, NoLines}, Places.PlaceOfRecord}
use Rattle.zone_program.specs.declared.fault.ZoneFault.{ZoneFault, TheVariants.{File, OutOfMemory, Read, Usage, Write}}

-- the arguments spell this apex, and whether the records of a signer are left out
abbrev pub AsksForZone : Tokens → Name → Bool → Type 0
AsksForZone (word ∷ []) apex is_unsigned = NameText word apex × (is_unsigned ≡ false)
AsksForZone (word ∷ last ∷ []) apex is_unsigned =
    (last ≡ codes "unsigned") × NameText word apex × (is_unsigned ≡ true)
AsksForZone words apex is_unsigned = ⊥

-- the arguments spell none
abbrev pub AsksForNone : Tokens → Type 0
AsksForNone words = (apex : Name) (is_unsigned : Bool) → AsksForZone words apex is_unsigned → ⊥

-- the word spells no name, or memory ran out
abbrev pub IsNoApex : Octets → ZoneFault → Type 0
IsNoApex word Usage = (apex : Name) → NameText word apex → ⊥
IsNoApex word OutOfMemory = Unit {0}
IsNoApex word fault = ⊥

-- the arguments spell none, or memory ran out
abbrev pub IsNoCommandFor : Tokens → ZoneFault → Type 0
IsNoCommandFor words Usage = AsksForNone words
IsNoCommandFor words OutOfMemory = Unit {0}
IsNoCommandFor words fault = ⊥

-- the lines of the file at a path that the arguments ask for
pub record LinesOfRun (gives : Contents) (path : Octets) (words : Tokens) (file text : Octets) : Type 0
  where
    pub apex : Name
    pub is_unsigned : Bool
    pub asks : AsksForZone words apex is_unsigned
    pub places : List PlaceOfRecord
    pub lines : AreZoneLines gives path file apex is_unsigned text places

-- why nothing is written: the arguments are none, the file could not be read, the first fault of
-- its records, or lack of memory
abbrev pub NoRun : Contents → Octets → Tokens → Option Octets → ZoneFault → Type 0
NoRun gives path words file Usage = AsksForNone words
NoRun gives path words file Read = Unit {0}
NoRun gives path words file (File fault) =
    IfSome file (λ octets. (apex : Name) × (is_unsigned : Bool) × AsksForZone words apex is_unsigned
    × NoLines gives path octets apex (File fault))
NoRun gives path words file Write = IfSome file (λ octets. (text : Octets) × LinesOfRun gives path words octets text)
NoRun gives path words file OutOfMemory = Unit {0}

-- a fault that comes before anything is written
abbrev pub IsBeforeWriting : ZoneFault → Type 0
IsBeforeWriting Write = ⊥
IsBeforeWriting OutOfMemory = ⊥
IsBeforeWriting fault = Unit {0}
