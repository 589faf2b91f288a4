-- The faults for which `denial nsec3` rejects records, and how the report has them.
use Rattle.std.specs.Prelude.{◌≡◌, ◌⊎◌, List, [], ◌∷◌, ◌++◌, Option, Some, None, codes}
use Rattle.domain_octets.specs.Octets.{Octets}
use Rattle.domain_names.specs.Name.{Name}
use Rattle.domain_alike.specs.Alike.{Pair}
use Rattle.domain_any_order.specs.{AnyOrder.{AreMixed, OfZone}, RawRecords.raw_view}
use Rattle.domain_borrowed.specs.Data.{RawRecord}
use Rattle.domain_groups.specs.declared.error.SigningError.{SigningError, TheVariants.{EmptyRecordSlice, MultipleTtlValues, Nsec3HashingError}}
use Rattle.domain_groups.specs.declared.error.SigningError.TheVariants.{SoaRecordCouldNotBeDetermined, OutOfMemory}
use Rattle.domain_hasher.specs.declared.error.Nsec3HashError.{Nsec3HashError}
use Rattle.domain_hasher.specs.declared.error.Nsec3HashError.TheVariants as hash_error
use Rattle.domain_nsec3.specs.{Chain.IsHashedFaultless, View.HasherAnswer}
use Rattle.denial_program.specs.{Answer.{usual_nsec3_config, HasNoNsec3s}, Command.Params, declared.fault.DenialFault.TheVariants.Signing}
use Rattle.lint_program.specs.declared.outcome.Outcome.{Outcome, TheVariants.Faulty}

-- the zone of the records has no fault of an NSEC3 chain with these parameters
abbrev pub AreHashable : HasherAnswer → List RawRecord → Name → Params → Type 0
AreHashable answers given apex p =
    OfZone raw_view given (λ L. IsHashedFaultless L apex (usual_nsec3_config answers p))

-- the fault for which `denial nsec3` rejects the records with these parameters: there is none
-- without parameters, if the records are of several classes, or if they have no fault
abbrev pub IsNsec3Rejection : HasherAnswer → List RawRecord → Name → Option Params
    → Option SigningError → Type 0
IsNsec3Rejection answers given apex None fault = fault ≡ None
IsNsec3Rejection answers given apex (Some p) None = AreMixed given ⊎ AreHashable answers given apex p
IsNsec3Rejection answers given apex (Some p) (Some e) = HasNoNsec3s answers given apex p (Signing e)

-- the line about a fault of hashing; equal hashes have lines of their own, and a hasher's error
-- ends the run
abbrev pub hash_fault_line : Nsec3HashError → Octets
hash_fault_line (hash_error.Hasher n) = []
hash_fault_line hash_error.AppendError = []
hash_fault_line hash_error.OwnerHashError =
    codes "zone: a hash cannot be a label: it has no octets, or more than 39\n"
hash_fault_line hash_error.Nsec3NameTooLong =
    codes "zone: the hashed owner names are too long: "
    ++ codes "the label of a hash and the apex take over 255 octets\n"
hash_fault_line hash_error.CollisionDetected = []
hash_fault_line hash_error.OutOfMemory = []

-- the line about a fault of the NSEC3 chain; those that the NSEC chain has too have lines of their
-- own
abbrev pub nsec3_fault_text : Option SigningError → Octets
nsec3_fault_text None = []
nsec3_fault_text (Some EmptyRecordSlice) = []
nsec3_fault_text (Some MultipleTtlValues) = []
nsec3_fault_text (Some SoaRecordCouldNotBeDetermined) = []
nsec3_fault_text (Some (Nsec3HashingError e)) = hash_fault_line e
nsec3_fault_text (Some OutOfMemory) = []

-- the outcome with these names that have the same hash, and this fault of the NSEC3 chain, each of
-- which is a fault; `plain` is the outcome without them
abbrev pub outcome_with : List Pair → Option SigningError → Outcome → Outcome
outcome_with [] None plain = plain
outcome_with [] (Some e) plain = Faulty
outcome_with (p ∷ more) fault plain = Faulty
