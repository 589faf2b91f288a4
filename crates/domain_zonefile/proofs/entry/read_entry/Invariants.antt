use Rattle.std.proofs.Common.{length, ◌-◌}
use Rattle.domain_zonefile.proofs.EntryLemmas.{Entering}
use Rattle.domain_zonefile.proofs.entry.read_entry.Given as goal

-- the entry from here on
abbrev pub invariant-lexemes : goal.invariant-lexemes
invariant-lexemes l = Entering l.file l.start l.at l.tokens l.brackets

abbrev pub decreases-lexemes : goal.decreases-lexemes
decreases-lexemes l = length l.file - l.at
