use Rattle.std.proofs.Common.{◌∙◌, refl}
use Rattle.sha1.specs.Sha1.{maj}
use Rattle.domain_sha1.proofs.RoundLemmas.{round_more, third_quarter}
use Rattle.domain_sha1.proofs.scalar.majority_round.Goals as goal

pub returns : goal.returns
returns c h so_far =
    let v = c.args.v in
    let quarter = third_quarter c.args.t v c.requires.low c.requires.high in
    c.round.ensures ∙ round_more h c.args.w.now v c.args.t _ _ maj _ so_far quarter c.majority.ensures refl
