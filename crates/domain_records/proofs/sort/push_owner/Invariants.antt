use Rattle.std.proofs.Common.{◌≡◌, ◌≤◌, length, take}
use Rattle.domain_records.proofs.sort.push_owner.Given as goal

-- what stood there stays
abbrev pub invariant-loop-run : goal.invariant-loop-run
invariant-loop-run g l = record {
  more : length l.initial.places.items ≤ length l.places.items;
  kept : l.initial.places.items ≡ take (length l.initial.places.items) l.places.items;
}
