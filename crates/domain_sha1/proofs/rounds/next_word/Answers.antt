use Rattle.std.proofs.Common.{◌-◌}
use Rattle.domain_sha1.proofs.LaneLemmas.{lane_at}
use Rattle.domain_sha1.proofs.rounds.next_word.Goals as goal

pub returns : goal.returns
returns c j in_four =
    let w = c.args.w.now in
    let t = c.args.t in
    rw (lane_at j w (t - 3), lane_at j w (t - 8), lane_at j w (t - 14), lane_at j w (t - 16)) (c.mix.ensures j in_four)
