-- Names of an NSEC3 chain with the same hash, as they are reported for the records of an input.
use Rattle.std.specs.Prelude.{◌≡◌, ◌⊎◌, ℕ, List, [], ◌++◌, Option, Some, None, codes}
use Rattle.domain_octets.specs.Octets.{Octets}
use Rattle.domain_names.specs.{Text.name_text, Name.Name}
use Rattle.domain_alike.specs.Alike.{AreAlike, IsFirstChainRefusal, Pair}
use Rattle.domain_any_order.specs.{AnyOrder.{AreMixed, OfZone}, RawRecords.raw_view}
use Rattle.domain_borrowed.specs.Data.{RawRecord}
use Rattle.domain_nsec3.specs.View.{HasherAnswer}
use Rattle.denial_program.specs.{Answer.usual_nsec3_config, Command.Params, Text.lines_of}

-- these pairs are reported for the chain that `denial nsec3` would make of the records with these
-- parameters: none without parameters, or if the records are of several classes
abbrev pub AreTold : HasherAnswer → List RawRecord → Name → Option Params → List Pair → Type 0
AreTold answers given apex None pairs = pairs ≡ []
AreTold answers given apex (Some p) pairs =
    (AreMixed given × (pairs ≡ []))
    ⊎ OfZone raw_view given (λ L. AreAlike L apex (usual_nsec3_config answers p) pairs)

-- the hasher fails for a name of that chain, and for none before it; without parameters it fails
-- for none
abbrev pub IsRefusalBy : HasherAnswer → List RawRecord → Name → Option Params → ℕ → Type 0
IsRefusalBy answers given apex None number = ⊥
IsRefusalBy answers given apex (Some p) number =
    OfZone raw_view given (λ L. IsFirstChainRefusal L apex (usual_nsec3_config answers p) number)

-- the line about a pair
abbrev pub alike_line : Pair → Octets
alike_line p =
    codes "zone: " ++ (name_text p.0 ++ codes ".") ++ codes " and " ++ (name_text p.1 ++ codes ".")
    ++ codes " hash alike"

abbrev pub alike_text : List Pair → Octets
alike_text = lines_of alike_line
