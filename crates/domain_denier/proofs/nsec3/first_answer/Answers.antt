use Rattle.std.proofs.{Common.{◌≡◌, ◌∙◌, arith}, lemmas.Grind.common_steps}
use Rattle.domain_denier.proofs.HashedDenyLemmas.{answer_same, cover_kept}
use Rattle.domain_denier.proofs.nsec3.first_answer.Goals as goal

pub returns : goal.returns
returns g c = λ k there.
    let same : c.lend_at-listed.result ≡ k = grind (arith, common_steps) in (
      c.encloser_answer-answer.ensures ∙ answer_same _ _ _ _ c.args.encloser.count _ _ c.args.rtype _ _ (grind (arith, common_steps))
          (grind (arith, common_steps)) c.opt_out_at-cover.ensures c.count_labels-count.ensures.count,
      cover_kept _ _ _ c.args.encloser.cover (grind (arith, common_steps)),
    )
