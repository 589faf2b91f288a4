use Rattle.std.proofs.{Common.rules, lemmas.Fn.always_returns_same}
use Rattle.domain_records.proofs.OrderLemmas.{stable_earliest}
use Rattle.domain_records.proofs.sort.sort_whole.Goals as goal

pub sort_by-requires-clause-order : goal.sort_by-requires-clause-order
sort_by-requires-clause-order g c = (g.T.CanonicalOrd.canonical_cmp, g.met.T.CanonicalOrd.total, always_returns_same _ _ _ (λ a r h called. search rules))

pub returns-clause-ok : goal.returns-clause-ok
returns-clause-ok g c =
    let R = g.T.CanonicalOrd.canonical_cmp in
    let o = g.met.T.CanonicalOrd.total in
    let done = c.in_ok-sort_by.ensures in
    let by = always_returns_same _ _ _ (λ a r h called. search rules) in
    record { moved = done.permutation; sorted = done.sorted R o by; earliest = λ on. stable_earliest o _ _ (done.stable on R o by) }
