use Rattle.std.proofs.Common.{◌≡◌, ◌≤◌, length, drop}
use Rattle.std.specs.Fmt.{digits_onto, digits}
use Rattle.domain_generate.proofs.number.write_digits.Given as goal

-- the digits so far, behind those of the rest
abbrev pub invariant-digits : goal.invariant-digits
invariant-digits l = record {
  within : l.at ≤ 64;
  len : length l.out ≡ 64;
  value : digits_onto l.at l.base l.upper l.rest (drop l.at l.out) ≡ digits l.base l.upper l.number;
}

abbrev pub decreases-digits : goal.decreases-digits
decreases-digits l = l.at
