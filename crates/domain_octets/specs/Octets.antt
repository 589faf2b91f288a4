-- Octets: their type, the limits of builders, octets that are overwritten, positions in octets that
-- are read, and the texts of errors.
use Rattle.std.{specs.{Prelude.{ℕ, List, ◌<◌, All, Option, None, Some, ◌≡◌, ◌++◌, length, take, drop, ◌+◌, codes}, List.refill}, proofs.Common.{ap, ◌∙◌}}
use Rattle.std.proofs.Math.Seq.{take-append_seam}
use Rattle.domain_octets.specs.declared.error.{AppendError.AppendError, ParseError.ParseError}
use Rattle.domain_octets.specs.declared.error.AppendError.TheVariants as append_error
use Rattle.domain_octets.specs.declared.error.ParseError.TheVariants as parse_error

-- ---- the type of octets

-- octets as numbers, the first octet first
abbrev pub Octets : Type 0
Octets = List ℕ

-- each number is below 256
abbrev pub AreOctets : Octets → Type 0
AreOctets octets = All (λ octet. octet < 256) octets

-- ---- limits of builders

-- a builder with this limit cannot hold `count` octets; without a limit it always can
abbrev pub IsOver : Option ℕ → ℕ → Type 0
IsOver None count = ⊥
IsOver (Some limit) count = limit < count

-- a builder with this limit can hold `count` octets: they are within the limit, or there is none
abbrev pub HasRoom : Option ℕ → ℕ → Type 0
HasRoom limit count = IsOver limit count → ⊥

-- ---- octets that are overwritten

-- overwriting `n` octets with `n` new ones leaves only the new ones
pub refilled : (n : ℕ) (old new : Octets) → n ≡ length new → refill n old new ≡ new
refilled n old new same =
    ap (λ k. take k (new ++ drop (length new) old)) same ∙ take-append_seam new (drop (length new) old)

-- ---- octets that are stored in the value itself if they are few

-- the greatest number of octets that are stored in the value itself
abbrev pub room_inside : ℕ
room_inside = 30

-- ---- octets that are read from the front

-- the position of a parser: how many octets have been read, and the octets that are left
pub record Place : Type 0 where
  pub pos : ℕ
  pub left : Octets

-- exactly these octets were read
pub record Takes (octets : Octets) (old new : Place) : Type 0 where
  pub parts : old.left ≡ octets ++ new.left
  pub moved : new.pos ≡ old.pos + length octets

-- ---- the texts of errors

abbrev pub append_error_text : AppendError → Octets
append_error_text append_error.ShortBuf = codes "buffer size exceeded"
append_error_text append_error.OutOfMemory = codes "out of memory"

abbrev pub parse_error_text : ParseError → Octets
parse_error_text parse_error.ShortInput = codes "unexpected end of input"
parse_error_text (parse_error.Form text) = text.now
