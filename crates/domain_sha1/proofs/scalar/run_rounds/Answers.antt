use Rattle.std.proofs.Common.{refl}
use Rattle.sha1.specs.Sha1.{rounds}
use Rattle.domain_sha1.proofs.scalar.run_rounds.Goals as goal

pub returns : goal.returns
unfolding rounds
returns c =
    let h = c.args.state in
    c.last_rounds.ensures h (c.majority_rounds-third.ensures h (c.parity_rounds-second.ensures h (c.choose_rounds-first.ensures h refl)))
