use Rattle.std.proofs.Common.{◌∙◌, ap}
use Rattle.sha1.specs.Sha1.{add_state, compress, rounds}
use Rattle.domain_sha1.specs.Lanes.{lane}
use Rattle.domain_sha1.proofs.LaneLemmas.{sum_at}
use Rattle.domain_sha1.proofs.RoundLemmas.{added}
use Rattle.domain_sha1.proofs.rounds.compress.Goals as goal

pub returns-clause-state : goal.returns-clause-state
unfolding compress
returns-clause-state c j b in_four words =
    let state = c.args.state in
    let v = c.run_rounds-v.result in
    let sum = sum_at j state v in
    let scheduled = ap (λ ws. rounds (lane j state) ws 80) (c.extend.ensures.words j b in_four words) in
    added (lane j state) (lane j v) _ _ _ _ _ (sum 0 _ (c.add.ensures j in_four)) (sum 1 _ (c.add-2.ensures j in_four))
    (sum 2 _ (c.add-3.ensures j in_four)) (sum 3 _ (c.add-4.ensures j in_four)) (sum 4 _ (c.add-5.ensures j in_four))
    ∙ ap (add_state (lane j state)) (c.run_rounds-v.ensures j in_four ∙ scheduled)
