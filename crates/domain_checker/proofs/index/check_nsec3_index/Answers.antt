use Rattle.std.{proofs.{Common.{◌≡◌, ◌<◌, ◌∙◌, true, sym, ap, subst, arith}, lemmas.Grind.common_steps}, specs.Option.option_map}
use Rattle.domain_names.specs.Name.{is_at_or_below}
use Rattle.domain_checker.specs.{HashedReading.{encloser_of, IsWalked, found_verdict}, HashedIndex.indexed_by}
use Rattle.domain_checker.proofs.index.check_nsec3_index.Goals as goal

-- the verdict is what the way to the apex gives, and what the records prove
pub returns-clause-checked : goal.returns-clause-checked
returns-clause-checked g c =
    let R = indexed_by (g.H.Nsec3Hasher.answer c.args.hasher.now) c.args.index.now in
    let x = g.M.ToName.labels c.args.name.now in
    let found = option_map (encloser_of g.N.ToName.labels) c.in_ok-found.found in
    let walked : IsWalked R x c.args.rtype c.found_verdict.result = record {
      found = found;
      is = c.in_ok-found.ensures.found;
      says = rw c.apex-apex.ensures at c.found_verdict.ensures ∙ ap (λ n. found_verdict R.apex found n c.args.rtype) c.count_labels.ensures.count;
    } in
    let bound : c.args.rtype < 65536 = subst (λ n. n < 65536) c.to_int-number.ensures c.to_int-number.type_inv in
    let low : is_at_or_below x R.apex ≡ true = rw c.apex-apex.ensures at (sym c.ends_with.ensures.value ∙ c.if-not-ends_with.false) in
    let are = c.walks_are_proved.ensures R x c.args.rtype _ bound low walked in
    record {
      outside = grind (arith, common_steps);
      zone = are.zone;
      exact = λ _. walked;
      proof = λ _. are.proof;
      within = are.within;
      refusal = grind (arith, common_steps);
      errors = tt;
    }
