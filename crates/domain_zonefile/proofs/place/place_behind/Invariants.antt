use Rattle.std.proofs.Common.{◌≡◌, ◌≤◌, ◌+◌, drop}
use Rattle.domain_zonefile.specs.Places.{place_behind}
use Rattle.domain_zonefile.proofs.place.place_behind.Given as goal

-- the place behind what is left
abbrev pub invariant-loop-octet : goal.invariant-loop-octet
invariant-loop-octet l = record {
  line : l.place.line ≤ l.fn.start.line + l.octet-index;
  column : l.place.column ≤ l.fn.start.column + l.octet-index + 1;
  same : place_behind l.place (drop l.octet-index l.text) ≡ place_behind l.fn.start l.text;
}
