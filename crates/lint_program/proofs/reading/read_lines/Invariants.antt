use Rattle.std.proofs.Common.{◌≡◌, length, map}
use Rattle.lint_program.proofs.ReportLemmas.{Follows}
use Rattle.lint_program.proofs.reading.read_lines.Given as goal

abbrev pub invariant-loop-number : goal.invariant-loop-number
invariant-loop-number g l =
    record {
      follows : Follows (g.R.Read.remaining l.fn.input) (g.R.Read.remaining l.input) (map (λ b. b.number) l.bad.items)
          (map (λ p. p.number) l.places.items) l.records.items l.number;
      paired : length l.places.items ≡ length l.records.items;
    }
