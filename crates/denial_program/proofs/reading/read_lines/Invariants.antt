use Rattle.denial_program.proofs.LineLemmas.{Follows}
use Rattle.denial_program.proofs.reading.read_lines.Given as goal

abbrev pub invariant-loop-number : goal.invariant-loop-number
invariant-loop-number g l = Follows (g.R.Read.remaining l.fn.input) (g.R.Read.remaining l.input) l.records.items l.number
