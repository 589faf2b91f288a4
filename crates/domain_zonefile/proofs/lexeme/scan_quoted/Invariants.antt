use Rattle.std.proofs.Common.{length, ◌-◌}
use Rattle.domain_zonefile.proofs.LexemeLemmas.{Quoting}
use Rattle.domain_zonefile.proofs.lexeme.scan_quoted.Given as goal

-- the first fault so far, and the token from here on
abbrev pub invariant-quoted : goal.invariant-quoted
invariant-quoted l = Quoting l.text l.len l.fault

abbrev pub decreases-quoted : goal.decreases-quoted
decreases-quoted l = length l.text - l.len
