use Rattle.std.proofs.Common.{◌∙◌, refl}
use Rattle.sha1.specs.Sha1.{ch}
use Rattle.domain_sha1.proofs.RoundLemmas.{round_more, first_quarter}
use Rattle.domain_sha1.proofs.scalar.choose_round.Goals as goal

pub returns : goal.returns
returns c h so_far =
    let v = c.args.v in
    let quarter = first_quarter c.args.t v c.requires in
    c.round.ensures ∙ round_more h c.args.w.now v c.args.t _ _ ch _ so_far quarter c.choose.ensures refl
