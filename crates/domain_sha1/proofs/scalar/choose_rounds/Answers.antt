use Rattle.std.proofs.Common.{arith}
use Rattle.domain_sha1.proofs.RoundLemmas.{rounds_at}
use Rattle.domain_sha1.proofs.scalar.choose_rounds.Goals as goal

pub rounds-init : goal.rounds-init
rounds-init c h began = began

pub rounds-preserved : goal.rounds-preserved
rounds-preserved c h began =
    let w = c.args.w.now in
    let one = c.choose_round-one.ensures h (c.rounds.invariant h began) in
    let two = c.choose_round-two.ensures h one in
    let three = c.choose_round-three.ensures h (rounds_at h w _ _ _ (omega arith) two) in
    let four = c.choose_round-four.ensures h (rounds_at h w _ _ _ (omega arith) three) in
    let five = c.choose_round-five.ensures h (rounds_at h w _ _ _ (omega arith) four) in
    rounds_at h w _ _ _ (omega arith) five

pub returns : goal.returns
returns c h began = rounds_at h c.args.w.now _ _ _ (omega arith) (c.rounds.invariant h began)
