use Rattle.std.proofs.Common.{length, ◌-◌}
use Rattle.domain_zonefile.specs.Entries.{end_in, lexemes}
use Rattle.domain_zonefile.proofs.EntryLemmas.{Skipping}
use Rattle.domain_zonefile.proofs.entry.resume.Given as goal

-- the end of the entry, seen from here
abbrev pub invariant-skipped : goal.invariant-skipped
invariant-skipped l = Skipping l.file l.at l.brackets (end_in l.fn.brackets (lexemes l.file l.fn.at))

abbrev pub decreases-skipped : goal.decreases-skipped
decreases-skipped l = length l.file - l.at
