use Rattle.std.proofs.Common.{arith}
use Rattle.domain_names.proofs.PartLemmas.{next_end}
use Rattle.domain_names.proofs.part.end_within.Goals as goal

pub loop-end-preserved : goal.loop-end-preserved
loop-end-preserved c = record {
  wire = c.in-Some.ensures.rest;
  end = λ name ends. next_end _ _ _ _ _ (c.loop-end.invariant.end name ends) c.in-Some.ensures.label;
  part = omega (arith, c.in-Some.ensures.shorter);
}
