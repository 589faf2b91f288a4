use Rattle.domain_names.specs.Part.{EndAlike}
use Rattle.domain_names.proofs.part.equal_end.Given as goal

abbrev pub invariant-loop-count : goal.invariant-loop-count
invariant-loop-count l = EndAlike l.a l.b l.count
