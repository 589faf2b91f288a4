use Rattle.std.proofs.Common.{◌∙◌, ap, refl}
use Rattle.sha1.specs.Sha1.{add_state, compress, initial_hash, rounds}
use Rattle.domain_sha1.proofs.RoundLemmas.{added}
use Rattle.domain_sha1.proofs.scalar.compress.Goals as goal

pub returns : goal.returns
unfolding compress
returns c =
    let v = c.run_rounds-v.result in
    let scheduled = c.extend.ensures c.args.block.now c.load.ensures in
    added initial_hash v _ _ _ _ _ refl refl refl refl refl
    ∙ ap (add_state initial_hash) (c.run_rounds-v.ensures ∙ ap (λ ws. rounds initial_hash ws 80) scheduled)
