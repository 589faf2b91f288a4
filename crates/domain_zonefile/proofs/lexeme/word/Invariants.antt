use Rattle.std.proofs.Common.{length, ◌-◌}
use Rattle.domain_zonefile.proofs.LexemeLemmas.{Wording}
use Rattle.domain_zonefile.proofs.lexeme.word.Given as goal

-- the token from here on
abbrev pub invariant-word : goal.invariant-word
invariant-word l = Wording l.text l.len l.equals

abbrev pub decreases-word : goal.decreases-word
decreases-word l = length l.text - l.len
