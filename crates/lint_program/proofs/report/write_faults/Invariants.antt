use Rattle.std.{proofs.Common.{map, take}, specs.Io.KnownBytes.Appends}
use Rattle.domain_octets.specs.Octets.{Octets}
use Rattle.lint_program.specs.Report.{AreFaults}
use Rattle.lint_program.proofs.report.write_faults.Given as goal

-- the lines so far were told
abbrev pub invariant-loop-line : goal.invariant-loop-line
invariant-loop-line g l =
    (text : Octets) × AreFaults (map (λ b. b.number) (take l.line-index l.bad)) text
    × Appends (g.W.Write.contents l.fn.output) (g.W.Write.contents l.output) text
