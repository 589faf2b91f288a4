use Rattle.std.proofs.Common.{List, sym, subst}
use Rattle.domain_borrowed.specs.Data.{RawRecord, raw_cmp}
use Rattle.domain_groups.{specs.InOrder.IsInOrder, proofs.InOrderLemmas.in_order_from_sorted}
use Rattle.denial_program.specs.Answer.{SortsRaw}
use Rattle.denial_program.proofs.prepare.sort_zone.Goals as goal

pub returns-in-Ok-clause-sorts : goal.returns-in-Ok-clause-sorts
returns-in-Ok-clause-sorts c = subst (λ (xs : List RawRecord). SortsRaw c.args.records.items xs) (sym c.into_inner.ensures.records) c.in-Ok.ensures.sorts

pub returns-in-Ok-clause-in_order : goal.returns-in-Ok-clause-in_order
returns-in-Ok-clause-in_order c =
    subst (λ (xs : List RawRecord). IsInOrder (λ n. n) (λ d. d.rtype) xs) (sym c.into_inner.ensures.records)
    (in_order_from_sorted _ (λ d. d.rtype) raw_cmp _ c.into_inner.ensures.sorted c.in-Ok.ensures.one_class)
