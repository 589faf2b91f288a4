use Rattle.std.proofs.{Common.{◌≡◌, false, sym, ap, subst, ◌∙◌, inl, inr, arith, None}, lemmas.{Grind.common_steps, Result.err_from_is_err_and}}
use Rattle.domain_names.specs.Name.{lowered, same_name, wire_of}
use Rattle.domain_nsec3.specs.View.{hash_by}
use Rattle.domain_checker.proofs.HashedVerdictLemmas.{wire_above}
use Rattle.domain_denier.{proofs.HashedPickLemmas.{none_placed, reached_above, reached_here, refused_at}, specs.HashedPicked.IsReached}
use Rattle.domain_denier.proofs.encloser.find_encloser.Goals as goal

pub names-init : goal.names-init
names-init g c =
    let same = sym c.as_parsed-left.ensures in
    let hash = hash_by (g.H.Nsec3Hasher.answer c.args.hasher.now) c.args.chain.now.param.parameters in
    record {
      wire = c.lower_wire-octets.ensures.octets ∙ ap (λ n. wire_of (lowered n)) same;
      reached = subst (λ n. IsReached hash c.args.chain.now (g.M.ToName.labels c.args.name.now) n None) same (reached_here _ _ _ c.requires.below);
    }

pub returns-in_err-found-clause-err : goal.returns-in_err-found-clause-err
returns-in_err-found-clause-err g c =
    let q = err_from_is_err_and c.from_residual.result c.from_residual.ensures.1 in
    rw (q.1, q.2) (elim c.in_err-found.ensures.err [
      | inl full ↦ inl full
      | inr r ↦ inr (r.0, r.1, refused_at _ _ _ _ _ c.names.invariant.reached r.0 c.names.octets.now c.names.invariant.wire r.2)
    ])

pub returns-then-found-clause-ok : goal.returns-then-found-clause-ok
returns-then-found-clause-ok g c = grind (arith, common_steps)

pub returns-then-name_eq-clause-ok : goal.returns-then-name_eq-clause-ok
returns-then-name_eq-clause-ok g c =
    none_placed _ _ _ _ _ c.names.invariant.reached _ (rw (c.names.invariant.wire, c.if-found.false) at c.in_ok-found.ensures.ok)
    (ap (same_name c.names.left) (sym (c.owner-apex.ensures ∙ ap (λ r. r.owner) c.nsec3param.ensures)) ∙ sym c.name_eq.ensures.value ∙ c.if-name_eq.true)

pub names-preserved : goal.names-preserved
names-preserved g c =
    let other : same_name c.names.left c.args.chain.now.param.owner ≡ false = grind (arith, common_steps) in
    record {
      wire = grind (arith, common_steps, wire_above);
      reached = reached_above _ _ _ _ _ c.names.invariant.reached _
          (rw (c.names.invariant.wire, c.if-found.false) at c.in_ok-found.ensures.ok) _ _ c.in-Some.ensures.parts other;
    }
