-- What the code returns for an entry.
use Rattle.std.specs.Prelude.{ℕ, ◌≡◌, List, Some, None}
use Rattle.domain_octets.specs.Octets.{Octets}
use Rattle.domain_zonefile.specs.Entries.{Piece, tokens_at, fault_at, next_at, unclosed_bracket, resume, EndOfFile}
use Rattle.domain_zonefile.specs.declared.entry.Reading.{Reading, TheVariants.{Entry, Faulty}}

-- this was read at a place of a file, with these tokens
abbrev pub IsReading : Octets → ℕ → Reading → List Piece → Type 0
IsReading file at (Entry next) tokens =
    (fault_at file at ≡ None) × (tokens ≡ tokens_at file at) × (next ≡ next_at file at)
IsReading file at (Faulty fault next) tokens =
    (fault_at file at ≡ Some fault) × (next ≡ next_at file at)

-- this is read at the end of a file with these brackets open
abbrev pub IsFileEnd : Octets → List ℕ → Reading → Type 0
IsFileEnd file brackets (Entry next) =
    (unclosed_bracket brackets ≡ None) × (next ≡ resume file None (EndOfFile brackets))
IsFileEnd file brackets (Faulty fault next) =
    (unclosed_bracket brackets ≡ Some fault)
    × (next ≡ resume file (unclosed_bracket brackets) (EndOfFile brackets))
