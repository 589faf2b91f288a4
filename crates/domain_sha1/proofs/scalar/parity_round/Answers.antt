use Rattle.std.proofs.Common.{◌∙◌, refl}
use Rattle.sha1.specs.Sha1.{parity}
use Rattle.domain_sha1.proofs.RoundLemmas.{round_more, second_quarter}
use Rattle.domain_sha1.proofs.scalar.parity_round.Goals as goal

pub returns : goal.returns
returns c h so_far =
    let v = c.args.v in
    let quarter = second_quarter c.args.t v c.requires.low c.requires.high in
    c.round.ensures ∙ round_more h c.args.w.now v c.args.t _ _ parity _ so_far quarter c.parity.ensures refl
