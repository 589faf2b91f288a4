use Rattle.std.proofs.{Common.{List, sym, subst, inr}, lemmas.Result.err_from_is_err_and}
use Rattle.domain_names.specs.Name.{Name}
use Rattle.domain_nsec3.{proofs.{OwnerLemmas.moved_hashes, chain.hash_chain.{Given.Over, Goals.In_ok-sort_by_hash}}, specs.Steps.AreHashesOf}
use Rattle.domain_nsec3.specs.{Steps.AreOrderedHashes, View.{hash_by, parameters_of}}
use Rattle.domain_nsec3.proofs.chain.hash_chain.Goals as goal

-- what was put in order are the hashes of the names
hashes : (g : Over) (c : In_ok-sort_by_hash g) → AreHashesOf c.args.apex.now
    (hash_by (g.H.Nsec3Hasher.answer c.args.hasher.now) (parameters_of c.args.params.now)) c.args.names.items c.sort_by_hash.new.hashed.items
hashes g c =
    subst (λ (ns : List Name). AreHashesOf c.args.apex.now (hash_by (g.H.Nsec3Hasher.answer c.args.hasher.now) (parameters_of c.args.params.now)) ns
    c.sort_by_hash.new.hashed.items) c.as_slice.ensures.value (moved_hashes _ _ _ _ _ c.in_ok-sort_by_hash.ensures.permutation c.in_ok-hashed.ensures.ok)

pub returns-clause-chain : goal.returns-clause-chain
returns-clause-chain g c =
    subst (AreOrderedHashes c.args.apex.now (hash_by (g.H.Nsec3Hasher.answer c.args.hasher.now) (parameters_of c.args.params.now)) c.args.names.items)
    (sym c.in_ok-without_collision.ensures.ok.0) (record {
      hashes = hashes g (goal.at.returns-clause-chain g c).In_ok-sort_by_hash;
      ascend = c.in_ok-without_collision.ensures.apart;
    })

pub returns-in_err-without_collision-clause-fault : goal.returns-in_err-without_collision-clause-fault
returns-in_err-without_collision-clause-fault g c =
    let at = (goal.at.returns-in_err-without_collision-clause-fault g c).In_ok-sort_by_hash in
    let p = err_from_is_err_and c.from_residual-in_err-without_collision.result c.from_residual-in_err-without_collision.ensures.1 in
    rw (p.1, p.2) (inr (inr (
      c.in_err-without_collision.ensures.err.0,
      c.sort_by_hash.new.hashed.items,
      hashes g at,
      c.in_err-without_collision.ensures.err.1,
    )))
