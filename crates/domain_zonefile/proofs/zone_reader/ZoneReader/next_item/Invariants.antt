use Rattle.std.proofs.Common.{length, ◌≡◌}
use Rattle.domain_zonefile.proofs.FileLemmas.{Passed}
use Rattle.domain_zonefile.proofs.zone_reader.ZoneReader.next_item.Given as goal

-- the entries so far only changed the state
abbrev pub invariant-entries : goal.invariant-entries
invariant-entries l = record {
  passed : Passed l.fn.self.state l.fn.self.left l.fn.data.items l.self-inside.state l.self-inside.entries.left l.data.items;
  file : l.self-inside.entries.file ≡ l.fn.self.file;
}

abbrev pub decreases-entries : goal.decreases-entries
decreases-entries l = length l.self-inside.entries.left
