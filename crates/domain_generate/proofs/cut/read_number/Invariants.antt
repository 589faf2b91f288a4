use Rattle.std.proofs.Common.{◌≡◌, ◌≤◌, drop, None}
use Rattle.std.specs.Prelude.{unwrap_or}
use Rattle.domain_zonefile.specs.ZoneClasses.{decimal_from}
use Rattle.domain_generate.specs.Ranges.{largest_number}
use Rattle.domain_generate.proofs.cut.read_number.Given as goal

-- the number from here on
abbrev pub invariant-loop-octet : goal.invariant-loop-octet
invariant-loop-octet l = record {
  same : decimal_from l.number (drop l.octet-index l.text) ≡ decimal_from None l.text;
  small : unwrap_or l.number 0 ≤ largest_number;
}
