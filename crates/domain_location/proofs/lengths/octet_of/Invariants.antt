use Rattle.std.proofs.Common.{◌≡◌, ◌≤◌}
use Rattle.domain_location.proofs.LengthLemmas.{IsHeld}
use Rattle.domain_location.proofs.lengths.octet_of.Given as goal

abbrev pub invariant-digits : goal.invariant-digits
invariant-digits l = record {
  held : IsHeld l.centimetres l.digit l.power;
  few : l.power ≤ 9;
  zero_is : l.digit ≡ 0 → l.power ≡ 0;
}

abbrev pub decreases-digits : goal.decreases-digits
decreases-digits l = l.digit
