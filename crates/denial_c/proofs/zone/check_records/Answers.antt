use Rattle.std.proofs.{Common.{arith, [], ◌∷◌, ◌++◌}, lemmas.Grind.common_steps}
use Rattle.denial_c.proofs.AmongLemmas.{past_more}
use Rattle.denial_c.proofs.zone.check_records.Goals as goal

pub records-preserved : goal.records-preserved
records-preserved c = (c.records.invariant.0 ++ c.in-Some.record ∷ [], grind (arith, common_steps, past_more))
