use Rattle.std.{proofs.Common.{arith, sym, ap, subst, ◌∙◌}, specs.Ordering.is_eq}
use Rattle.domain_denier.{proofs.{HashedDenyLemmas.found, HashedPickLemmas.read_is}, specs.HashedPicked.IsOfHash}
use Rattle.domain_denier.proofs.hash_search.find_hash.Goals as goal

pub returns-clause-of_hash : goal.returns-clause-of_hash
returns-clause-of_hash g c hash zone =
    let v = c.args.hash.now in
    let s = c.search.invariant in
    let own = c.in-Some-hash_at-2.ensures.some in
    let facts = c.hashed_chains_are_known.ensures zone.0 _ zone.1 _ zone.2.is in
    subst (λ R. IsOfHash R v c.search.low c.is_eq.result) (read_is zone.0 zone.1 hash c.args.chain.now zone.2)
    (subst (IsOfHash _ v c.search.low) (sym (c.is_eq.ensures ∙ ap is_eq c.cmp.ensures))
    (found _ _ _ _ facts v c.search.low c.search.high s.0 s.1 (omega (arith, c.search-test.false, s.0)) s.2 s.3 own.0 _ own.1))
