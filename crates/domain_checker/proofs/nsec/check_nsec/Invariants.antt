use Rattle.std.proofs.Common.{take}
use Rattle.domain_nsec.specs.Chain.{links_of}
use Rattle.domain_checker.specs.Reading.{HasRead}
use Rattle.domain_checker.proofs.nsec.check_nsec.Given as goal

abbrev pub invariant-loop-listed : goal.invariant-loop-listed
invariant-loop-listed g l =
    HasRead (g.A.ToName.labels l.apex) (g.M.ToName.labels l.name) l.fn.rtype (links_of g.N.ToName.labels (take l.listed-index l.chain)) l.check
