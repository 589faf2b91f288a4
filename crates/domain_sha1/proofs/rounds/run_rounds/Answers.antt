use Rattle.std.proofs.Common.{refl}
use Rattle.sha1.specs.Sha1.{rounds}
use Rattle.domain_sha1.specs.Lanes.{lane}
use Rattle.domain_sha1.proofs.rounds.run_rounds.Goals as goal

pub returns : goal.returns
unfolding rounds
returns c j in_four =
    let h = lane j c.args.state in
    let first = c.choose_rounds-first.ensures j h in_four refl in
    let second = c.parity_rounds-second.ensures j h in_four first in
    let third = c.majority_rounds-third.ensures j h in_four second in
    c.last_rounds.ensures j h in_four third
