use Rattle.std.proofs.Common.{◌≡◌, false, sym, ap, ◌∙◌}
use Rattle.domain_names.specs.Name.{same_name}
use Rattle.domain_nsec.specs.Chain.{as_link}
use Rattle.domain_denier.proofs.PickLemmas.{both_at}
use Rattle.domain_denier.proofs.judged.second_of.Goals as goal

pub returns-in_default-judge_wildcard : goal.returns-in_default-judge_wildcard
returns-in_default-judge_wildcard g c =
    let a = g.A.ToName.labels c.args.apex.now in
    let x = g.M.ToName.labels c.args.name.now in
    let apart : same_name (as_link (λ n. n) c.lend_at-listed.result).owner (g.M.ToName.labels c.args.name.now) ≡ false =
    ap (λ o. same_name o (g.M.ToName.labels c.args.name.now)) (sym c.owner.ensures) ∙ sym c.name_eq.ensures.value ∙ c.if-not-name_eq.true in
    let both = both_at c.args.chain.now a x c.args.rtype c.args.first c.in-Some.near c.args.count (as_link (λ n. n) c.lend_at-listed.result)
    c.lend_at-listed.ensures c.requires.denies apart c.args.wildcard.now c.requires.wildcard (c.requires.silent c.if-is_silent.true)
    (λ m e. c.in_default-judge_wildcard.not-NoCloserName m (c.judge_wildcard.ensures ∙ e)) c.requires.first in
    record { inside = c.in-Some.ensures; found = λ L apex config whole under. both.1; exact = c.judge_wildcard.ensures ∙ both.0 }
