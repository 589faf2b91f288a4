use Rattle.std.proofs.lemmas.List.{take_all}
use Rattle.domain_checker.proofs.nsec.check_nsec.Goals as goal

pub returns : goal.returns
returns g c = c.verdict.ensures _ _ _ _ (rw (take_all _ c.args.chain.now c.loop-listed-test.false) at c.loop-listed.invariant)
