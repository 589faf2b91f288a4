use Rattle.std.proofs.{Common.{Ok, ◌≡◌, ◌&&◌, ◌++◌, ap, inl, inr, map, refl, subst, sym, take, arith}, lemmas.Grind.common_steps}
use Rattle.domain_octets.proofs.StdLemmas.{if_err_of}
use Rattle.domain_nsec3.specs.{Steps.IsListOf, Chain.{hash_name, is_chain_name}, View.config_of}
use Rattle.domain_borrowed.specs.Data.{zone_of_raw}
use Rattle.domain_alike.specs.Alike.{pair_of, IsFirstChainRefusal, IsRefusedBy, pair_with, ArePairs}
use Rattle.domain_alike.proofs.AlikeLemmas.{alike_are, all_hashed, first_refusal, pairs_more}
use Rattle.domain_alike.proofs.alike.alike_names.{Given.Over, Goals.{After-deref-name-items, in-Some+in_ok-later+in_ok-push, in_default}}
use Rattle.domain_alike.proofs.alike.alike_names.Goals as goal

chain_list : (g : Over) (c : After-deref-name-items g)
    → IsListOf (is_chain_name (zone_of_raw c.args.sorted.now) c.args.apex.now (config_of (g.H.Nsec3Hasher.answer c.args.hasher.now) c.args.config.now))
    c.deref-name-items.result.now
chain_list g c =
    let config = config_of (g.H.Nsec3Hasher.answer c.args.hasher.now) c.args.config.now in
    subst (IsListOf (is_chain_name (zone_of_raw c.args.sorted.now) c.args.apex.now config)) (sym c.deref-name-items.ensures.value)
    (c.in_ok-names.ensures config (ap (λ b. b && config.exclude_unsigned) (sym c.opt_out_flag.ensures)) refl)

pub loop-name-preserved : goal.loop-name-preserved
loop-name-preserved g c =
    let config = config_of (g.H.Nsec3Hasher.answer c.args.hasher.now) c.args.config.now in
    let names = c.deref-name-items.result.now in
    let list = chain_list g (goal.at.loop-name-preserved g c).After-deref-name-items in
    let so_far = c.loop-name.invariant in
    let is : hash_name config.hash c.name-item.result ≡ Ok c.in_ok-hash.hash.items = grind (arith, common_steps) in
    let found = c.in_ok-first.ensures config.hash (take c.loop-name.name-index names) is so_far.1 in
    let pushed : map pair_of c.match-branch-4.pairs.items ≡ map pair_of c.loop-name.pairs.items ++ pair_with c.name-item.result c.in_ok-first.field-0 =
    elim c.match-branch-4.branch [ in-Some+in_ok-later+in_ok-push w ↦ grind (arith, common_steps) | in_default w ↦ grind (arith, common_steps) ] in (
      pairs_more (zone_of_raw c.args.sorted.now) c.args.apex.now config names list c.loop-name.name-index c.name-item.result _ c.loop-name-test.true
          c.name-item.is so_far.0 _ _ _ is found.0 pushed,
      λ k. grind (arith, common_steps, (found.1 k)),
    )

pub returns-clause-ok : goal.returns-clause-ok
returns-clause-ok g c =
    alike_are _ _ (config_of (g.H.Nsec3Hasher.answer c.args.hasher.now) c.args.config.now) c.deref-name-items.result.now
    (chain_list g (goal.at.returns-clause-ok g c).After-deref-name-items) _ (grind (arith, common_steps, c.loop-name.invariant.0))

pub returns-clause-hashed : goal.returns-clause-hashed
returns-clause-hashed g c =
    let config = config_of (g.H.Nsec3Hasher.answer c.args.hasher.now) c.args.config.now in
    let names = c.deref-name-items.result.now in
    let pairs = map pair_of c.loop-name.pairs.items in
    let told : ArePairs config.hash names names pairs = grind (arith, common_steps, c.loop-name.invariant.0) in
    all_hashed (zone_of_raw c.args.sorted.now) c.args.apex.now config names (chain_list g (goal.at.returns-clause-hashed g c).After-deref-name-items) pairs told

pub returns-in_err-hash-clause-err : goal.returns-in_err-hash-clause-err
returns-in_err-hash-clause-err g c =
    let config = config_of (g.H.Nsec3Hasher.answer c.args.hasher.now) c.args.config.now in
    let names = c.deref-name-items.result.now in
    let list = chain_list g (goal.at.returns-in_err-hash-clause-err g c).After-deref-name-items in
    if_err_of (IsRefusedBy (IsFirstChainRefusal (zone_of_raw c.args.sorted.now) c.args.apex.now config)) c.in_err-hash.field-0.0
    c.from_residual-in_err-hash.result c.from_residual-in_err-hash.ensures.1
    (elim c.in_err-hash.ensures.err [
      | inl none ↦ inl none.0
      | inr r ↦ inr (
        r.0,
        r.1,
        first_refusal (zone_of_raw c.args.sorted.now) c.args.apex.now config names list c.loop-name.name-index c.name-item.result _
            c.loop-name-test.true c.name-item.is c.loop-name.invariant.0 r.0 (let no = r.2 in grind (arith, common_steps)),
      )
    ])
