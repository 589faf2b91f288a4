use Rattle.denial_program.proofs.LineLemmas.{StaysKnown}
use Rattle.denial_program.proofs.reading.skip_all.Given as goal

abbrev pub invariant-loop : goal.invariant-loop
invariant-loop g l = StaysKnown (g.R.Read.remaining l.fn.input) (g.R.Read.remaining l.input)
