use Rattle.std.proofs.{Common.{sym, ◌∙◌, arith}, lemmas.Grind.common_steps}
use Rattle.domain_answer.proofs.ChainLemmas.{cover_told, found_covers, found_reads}
use Rattle.domain_answer.specs.Reading.{cover_link}
use Rattle.domain_answer.proofs.nsec.name_told.Goals as goal

pub returns : goal.returns
returns g c = λ listed found.
    let k = cover_link g.N.ToName.labels c.in-Some.cover in
    let is = rw (c.in-NoMatch.is, c.in-Some.is) at found in
    cover_told _ _ _ c.args.rtype _ k c.in-Some.cover.shared
    (found_reads _ _ _ c.args.rtype c.requires.low (sym c.is_at_parent.ensures ∙ c.if-is_at_parent.false)
    (sym c.is_meta_type.ensures ∙ c.if-is_meta_type.false) _ _ is)
    (grind (arith, common_steps)) (grind (arith, common_steps)) (rw (c.in-NoMatch.is, c.in-Some.is) at c.requires.shared) (found_covers _ _ _ _ is)
