-- The faults of records as a zone, for which `denial nsec` rejects them.
use Rattle.std.specs.Prelude.{◌≡◌, ◌≢◌, ◌⊎◌, Bool, true, false, ◌||◌, List, None}
use Rattle.domain_names.specs.Name.{Name}
use Rattle.domain_any_order.specs.{AnyOrder.{AreMixed, OfZone}, RawRecords.raw_view}
use Rattle.domain_borrowed.specs.Data.{RawRecord}
use Rattle.domain_nsec.specs.Chain.{usual_config, IsFaultless}
use Rattle.domain_zone.specs.Zone.{has_unequal_ttls, soa_of, unoccluded_owners, ZoneRecord}
use Rattle.lint_program.specs.declared.{faults.ZoneFaults.ZoneFaults, looks.Reason.Reason}
use Rattle.lint_program.specs.declared.looks.Reason.TheVariants.{NoSoa, SecondSoa, StraySoa, OtherClass}
use Rattle.lint_program.specs.declared.looks.Reason.TheVariants.{OtherTtl, Outside, BesideAlias, OddData, Parameters}

-- there is a fault
abbrev pub are_any : ZoneFaults → Bool
are_any faults = faults.classes || (faults.soa || faults.ttls)

-- the faults of a zone of one class, as the generator of its NSEC chain has them (`IsFirstFault`)
pub record HasFaults (L : List ZoneRecord) (a : Name) (faults : ZoneFaults) : Type 0 where
  pub classes : faults.classes ≡ false
  pub soa : faults.soa ≡ true → soa_of L a ≡ None
  pub single : faults.soa ≡ false → soa_of L a ≢ None
  pub ttls : faults.ttls
      ≡ has_unequal_ttls L (unoccluded_owners usual_config.occlude_below_dname L a)

-- the faults of records: they are of several classes, and all are set; or they are of one class,
-- and these are the faults of their zone
abbrev pub AreFaultsOf : List RawRecord → Name → ZoneFaults → Type 0
AreFaultsOf given apex faults =
    (AreMixed given × (faults ≡ record { classes = true; soa = true; ttls = true }))
    ⊎ OfZone raw_view given (λ L. HasFaults L apex faults)

-- the zone of the records has none of these faults
abbrev pub AreFaultless : List RawRecord → Name → Type 0
AreFaultless given apex = OfZone raw_view given (λ L. IsFaultless L apex usual_config)

-- the reason is one of these faults
abbrev pub fails : ZoneFaults → Reason → Bool
fails faults NoSoa = faults.soa
fails faults SecondSoa = faults.soa
fails faults StraySoa = false
fails faults OtherClass = faults.classes
fails faults OtherTtl = faults.ttls
fails faults Outside = false
fails faults BesideAlias = false
fails faults OddData = false
fails faults Parameters = false
