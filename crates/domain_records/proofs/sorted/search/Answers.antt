use Rattle.std.proofs.{Common.rules, lemmas.Fn.always_returns_same}
use Rattle.domain_records.proofs.OrderLemmas.{searched}
use Rattle.domain_records.proofs.sorted.search.Goals as goal

-- the closure answers by the order, at the item that it holds
pub returns : goal.returns
returns g c =
    let facts = c.binary_search_by.ensures in
    let by = facts.position (λ y. g.T.CanonicalOrd.canonical_cmp y c.args.item.now) (always_returns_same _ _ _ (λ a r f' called. search rules)) in
    let p = searched g.met.T.CanonicalOrd.total _ _ _ c.requires facts.bound by in
    record { found = p.0; absent = p.1 }
