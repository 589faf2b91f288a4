use Rattle.std.proofs.Common.{ap, ◌∙◌}
use Rattle.std.specs.Int.{w32, rotate_left}
use Rattle.domain_sha1.proofs.LaneLemmas.{mix_at}
use Rattle.domain_sha1.proofs.lanes.mix.Goals as goal

pub returns : goal.returns
returns c j h =
    c.rotate.ensures j h ∙ ap (λ x. rotate_left w32 x 1) (mix_at c.args.a c.args.b c.args.c c.args.d j c.fits-a.0 c.fits-b.0 c.fits-c.0 c.fits-d.0 h)
