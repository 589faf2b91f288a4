use Rattle.std.proofs.Common.{length}
use Rattle.domain_bitmap.proofs.TextLemmas.{Scanned}
use Rattle.domain_bitmap.proofs.bitmap.add_all.Given as goal

abbrev pub invariant-loop-scanner : goal.invariant-loop-scanner
invariant-loop-scanner g l = Scanned (g.S.Scanner.tokens l.initial.scanner) (g.S.Scanner.tokens l.scanner) l.builder

abbrev pub decreases-loop-scanner : goal.decreases-loop-scanner
decreases-loop-scanner g l = length (g.S.Scanner.tokens l.scanner)
