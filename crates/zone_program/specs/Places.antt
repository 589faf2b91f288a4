-- Where the records of lines are.
use Rattle.std.specs.Prelude.{ℕ, ◌≡◌, ◌⊎◌, ◌++◌, ◌<◌, ◌≤◌, ◌-◌, List, [], ◌∷◌, All, Vec, get_or, length, map}
use Rattle.domain_octets.specs.Octets.{Octets}
use Rattle.domain_includes.specs.Files.{PlacedRecord}
use Rattle.zone_program.specs.declared.places.{HeldPlace.HeldPlace, ZoneLines.ZoneLines}

-- where a record is: the path of its file, and the line of its first token there
pub record PlaceOfRecord : Type 0 where
  pub path : Octets
  pub line : ℕ

abbrev pub place_of_record : PlacedRecord → PlaceOfRecord
place_of_record r = record { path = r.path; line = r.place.line }

-- the path with this number, or an empty one
abbrev pub path_at : {A : Type 0} → List (Vec ℕ A) → ℕ → Octets
path_at paths number = get_or (map (λ p. p.items) paths) number []

-- the place that is held with these paths
abbrev pub place_held : {A : Type 0} → List (Vec ℕ A) → HeldPlace → PlaceOfRecord
place_held paths held = record { path = path_at paths held.file; line = held.line }

-- the places of the records of lines
abbrev pub places_of : ZoneLines → List PlaceOfRecord
places_of lines = map (place_held lines.paths.items) lines.places.items

-- the record of the line with this number is there
pub record IsPlaceOf (places : List PlaceOfRecord) (number : ℕ) (path : Octets) (line : ℕ) : Type 0
  where
    pub from : 1 ≤ number
    pub to : number ≤ length places
    pub is : record { path = path; line = line } ≡ get_or places (number - 1) (record { path = path; line = line })

-- there is no line with this number
abbrev pub IsNoLine : List PlaceOfRecord → ℕ → Type 0
IsNoLine places number = (number ≡ 0) ⊎ (length places < number)

-- ---- steps

-- a path has this number among the paths, and those before keep theirs
pub record IsHeldAs {A : Type 0} (old : List (Vec ℕ A)) (path : Octets) (number : ℕ)
    (new : List (Vec ℕ A)) : Type 0 where
  pub within : number < length new
  pub is : path_at new number ≡ path
  pub longer : length old ≤ length new
  pub kept : (other : ℕ) → other < length old → path_at new other ≡ path_at old other

-- the path of each place is held
abbrev pub AreHeld : ZoneLines → Type 0
AreHeld lines = All (λ held. held.file < length lines.paths.items) lines.places.items

-- a place was appended to lines whose paths are held, and the text is the same
pub record PutsPlace (old : ZoneLines) (path : Octets) (line : ℕ) (new : ZoneLines) : Type 0 where
  pub text : new.text ≡ old.text
  pub held : AreHeld old → AreHeld new
  pub places : AreHeld old
      → places_of new ≡ places_of old ++ record { path = path; line = line } ∷ []
