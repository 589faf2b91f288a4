use Rattle.std.proofs.Common.{sym, subst}
use Rattle.domain_borrowed.specs.Data.{raw_cmp}
use Rattle.domain_groups.proofs.InOrderLemmas.{in_order_from_sorted}
use Rattle.denial_c.specs.Chains.{AreSorted}
use Rattle.denial_c.proofs.zone.sorted_zone.Goals as goal

pub returns-in-Ok-clause-ok : goal.returns-in-Ok-clause-ok
returns-in-Ok-clause-ok c =
    subst (AreSorted c.args.class c.args.octets.now) (sym c.into_inner.ensures.records) (record {
      given = c.in_ok-records.records.items;
      are = c.in_ok-records.ensures;
      sorts = c.in-Ok.ensures.sorts;
      one_class = c.in-Ok.ensures.one_class;
      in_order = in_order_from_sorted _ (λ d. d.rtype) raw_cmp _ c.into_inner.ensures.sorted c.in-Ok.ensures.one_class;
    })
