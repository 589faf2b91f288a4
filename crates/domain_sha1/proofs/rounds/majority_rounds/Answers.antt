use Rattle.std.proofs.Common.{arith}
use Rattle.domain_sha1.specs.Lanes.{lane}
use Rattle.domain_sha1.proofs.RoundLemmas.{rounds_at}
use Rattle.domain_sha1.proofs.rounds.majority_rounds.Goals as goal

pub rounds-init : goal.rounds-init
rounds-init c j h in_four began = began

pub rounds-preserved : goal.rounds-preserved
rounds-preserved c j h in_four began =
    let w = lane j c.args.w.now in
    let one = c.majority_round-one.ensures j h in_four (c.rounds.invariant j h in_four began) in
    let two = c.majority_round-two.ensures j h in_four one in
    let three = c.majority_round-three.ensures j h in_four (rounds_at h w _ _ _ (omega arith) two) in
    let four = c.majority_round-four.ensures j h in_four (rounds_at h w _ _ _ (omega arith) three) in
    let five = c.majority_round-five.ensures j h in_four (rounds_at h w _ _ _ (omega arith) four) in
    rounds_at h w _ _ _ (omega arith) five

pub returns : goal.returns
returns c j h in_four began = rounds_at h (lane j c.args.w.now) _ _ _ (omega arith) (c.rounds.invariant j h in_four began)
