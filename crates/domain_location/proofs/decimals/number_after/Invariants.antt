use Rattle.std.proofs.Common.{◌≡◌, ◌≤◌, drop}
use Rattle.std.specs.{Prelude.◌↔◌, Str.Parse.{AllDigits, digits_value_after}}
use Rattle.domain_location.proofs.decimals.number_after.Given as goal

abbrev pub invariant-loop-c : goal.invariant-loop-c
invariant-loop-c l = record {
  digits : AllDigits 10 (drop l.c-index l.digits) ↔ AllDigits 10 l.digits;
  value : digits_value_after 10 l.number (drop l.c-index l.digits) ≡ digits_value_after 10 l.start l.digits;
  fits : l.number ≤ l.limit;
}
