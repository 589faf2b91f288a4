-- The exit status of the program for each fault.
use Rattle.std.specs.Prelude.{ℕ}
use Rattle.denial_program.specs.Fault.{exit_status}
use Rattle.zone_program.specs.Status.{zone_status}
use Rattle.denial_commands.specs.declared.fault.CommandFault.{CommandFault, TheVariants.{Denial, Judge, Lint, Zone}}
use Rattle.denial_commands.specs.declared.fault.ZoneRunFault.{ZoneRunFault, TheVariants.{Command, File, Records}}

abbrev pub command_status : CommandFault → ℕ
command_status (Denial fault) = exit_status fault
command_status (Judge fault) = exit_status fault
command_status (Lint fault) = exit_status fault
command_status (Zone fault) = zone_status fault

abbrev pub zone_run_status : ZoneRunFault → ℕ
zone_run_status (Command fault) = command_status fault
zone_run_status (File fault) = zone_status fault
zone_run_status (Records fault lines) = command_status fault
