use Rattle.std.{proofs.Common.{map, take}, specs.Io.KnownBytes.Appends}
use Rattle.domain_alike.specs.Alike.{pair_of}
use Rattle.lint_program.specs.Alike.{alike_text}
use Rattle.lint_program.proofs.report.write_alike.Given as goal

-- the pairs so far were told
abbrev pub invariant-loop-pair : goal.invariant-loop-pair
invariant-loop-pair g l = Appends (g.W.Write.contents l.fn.output) (g.W.Write.contents l.output) (alike_text (map pair_of (take l.pair-index l.pairs)))
