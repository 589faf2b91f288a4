use Rattle.std.{proofs.Common.take, specs.Io.KnownBytes.Appends}
use Rattle.denial_program.specs.Text.{lines_of, nsec3_line}
use Rattle.denial_program.proofs.answer.write_chain.Given as goal

abbrev pub invariant-loop-place : goal.invariant-loop-place
invariant-loop-place g l = Appends (g.W.Write.contents l.fn.output) (g.W.Write.contents l.output) (lines_of nsec3_line (take l.place l.chain.links))
