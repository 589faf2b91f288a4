use Rattle.std.proofs.Common.{length, ◌-◌, ◌≤◌, ◌≡◌}
use Rattle.domain_zonefile.specs.{Entries.items_from, Places.IsSeen}
use Rattle.domain_zonefile.proofs.reader.EntryReader.next_entry.Given as goal

-- what is left is what was left: the lines so far have no tokens
abbrev pub invariant-lines : goal.invariant-lines
invariant-lines l = record {
  file : l.self-inside.file.now ≡ l.fn.self.file;
  left : items_from l.self-inside.file.now l.self-inside.next ≡ l.fn.self.left;
  within : l.self-inside.next ≤ length l.self-inside.file.now;
  seen : IsSeen l.self-inside.file.now l.self-inside.seen;
}

abbrev pub decreases-lines : goal.decreases-lines
decreases-lines l = length l.self-inside.file.now - l.self-inside.next
