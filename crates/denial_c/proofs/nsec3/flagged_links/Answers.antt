use Rattle.std.proofs.{Common.{ap, map, rules, ◌∙◌}, lemmas.Fn.filter_same}
use Rattle.domain_nsec3.specs.View.{as_hashed_link}
use Rattle.denial_c.proofs.AmongLemmas.{map_filter}
use Rattle.denial_c.proofs.nsec3.flagged_links.Goals as goal

pub returns : goal.returns
returns c =
    ap (map (as_hashed_link (λ n. n))) (filter_same _ _ _ (λ x b f' k. search rules) _ _ c.retain.ensures.filtered)
    ∙ map_filter (as_hashed_link (λ n. n)) _ c.args.nsec3s.items
