use Rattle.std.proofs.Common.{◌≡◌, ◌<◌, ◌^◌, drop}
use Rattle.std.specs.{Prelude.◌↔◌, Str.Parse.{AllDigits, digits_value_after}}
use Rattle.domain_types.proofs.address.read_group.Given as goal

abbrev pub invariant-loop-c : goal.invariant-loop-c
invariant-loop-c l = record {
  digits : AllDigits 16 (drop l.c-index l.text) ↔ AllDigits 16 l.text;
  value : digits_value_after 16 l.number (drop l.c-index l.text) ≡ digits_value_after 16 0 l.text;
  small : l.number < 16 ^ l.c-index;
}
