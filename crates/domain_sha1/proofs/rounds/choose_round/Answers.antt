use Rattle.std.proofs.Common.{◌∙◌, sym}
use Rattle.sha1.specs.Sha1.{ch}
use Rattle.domain_sha1.specs.Lanes.{lane}
use Rattle.domain_sha1.proofs.LaneLemmas.{lane_at, mixed_at}
use Rattle.domain_sha1.proofs.RoundLemmas.{round_more, first_quarter}
use Rattle.domain_sha1.proofs.rounds.choose_round.Goals as goal

pub returns : goal.returns
returns c j h in_four so_far =
    let v = lane j c.args.v in
    let quarter = first_quarter c.args.t v c.requires in
    c.round.ensures j in_four
    ∙ round_more h (lane j c.args.w.now) v c.args.t _ _ ch _ so_far quarter
    (mixed_at ch j c.args.v _ (c.choose.ensures j in_four)) (sym (lane_at j c.args.w.now c.args.t))
