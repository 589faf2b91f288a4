use Rattle.std.proofs.Common.{◌≡◌, drop, sym, ap, subst, arith}
use Rattle.std.proofs.lemmas.{List.drop_at, Grind.common_steps}
use Rattle.domain_types.specs.{Fields.AreFieldOctets, Table.{fields_of, tail_of}}
use Rattle.domain_types.proofs.canonical.put_canonical.Goals as goal

pub lower_fields-requires-clause-fields : goal.lower_fields-requires-clause-fields
lower_fields-requires-clause-fields c =
    let t = c.args.rtype in
    let octets : drop c.len-start.result c.as_mut_slice.result.now ≡ c.args.octets.now = grind (arith, common_steps, drop_at) in
    let valid : AreFieldOctets (fields_of t) (tail_of t) c.args.octets.now = grind (arith, common_steps) in (
      tail_of t,
      subst (λ fs. AreFieldOctets fs (tail_of t) (drop c.len-start.result c.as_mut_slice.result.now)) (sym (ap (λ r. r.fields) c.row_of.ensures))
          (subst (AreFieldOctets (fields_of t) (tail_of t)) (sym octets) valid),
    )
