-- The exit status of the program for each fault.
use Rattle.std.specs.Prelude.{ℕ}
use Rattle.zone_program.specs.declared.fault.ZoneFault.{ZoneFault, TheVariants.{Usage}}

abbrev pub zone_status : ZoneFault → ℕ
zone_status Usage = 2
zone_status _ = 1
