use Rattle.domain_checker.proofs.IndexLemmas.{found_in_any, found_in_links}
use Rattle.domain_checker.proofs.index.Nsec3Index.find.Goals as goal

pub returns-then-self : goal.returns-then-self
returns-then-self g c =
    let kept = c.self.invariant in
    let found = rw c.deref.ensures.value at c.search.ensures in
    rw (← c.self.view_is) (found_in_links _ _ _ c.args.hash.now _ _ (found_in_any _ (kept.ring c.if-self.true) _ kept.same _ _ _ found))

pub returns-else-self : goal.returns-else-self
returns-else-self g c =
    let found = rw c.deref-else-self.ensures.value at c.walk.ensures in
    rw (← c.self.view_is) (found_in_links _ _ _ c.args.hash.now _ _ (rw (c.self.invariant.order c.if-self.false) at found))
