use Rattle.std.proofs.{Common.{sym, arith}, lemmas.Grind.common_steps}
use Rattle.domain_record.specs.Record.{record_cmp_total}
use Rattle.domain_records.proofs.{OrderLemmas.sorted_remove, LookupLemmas.{none_left, first_left}}
use Rattle.domain_records.proofs.sorted.SortedRecords.remove_first_by_name_class_rtype.Goals as goal

pub invariant_of-self : goal.invariant_of-self
invariant_of-self g c =
    let o = record_cmp_total g.N.ToName.labels g.D.RecordData.rtype g.D.CanonicalOrd.canonical_cmp g.met.D.CanonicalOrd.total in
    let within = rw c.deref.ensures.value at c.in-Some.ensures.0 in
    rw c.remove.ensures.items (sorted_remove o _ _ within c.self.invariant)

pub returns-in-Some-clause-kept : goal.returns-in-Some-clause-kept
returns-in-Some-clause-kept g c = grind (arith, common_steps, first_left)

pub returns-in-None-clause-kept : goal.returns-in-None-clause-kept
returns-in-None-clause-kept g c = rw (← c.self.view_is) (sym (none_left _ _ (rw c.deref.ensures.value at c.in-None.ensures)).1)

pub returns-in-None-clause-found : goal.returns-in-None-clause-found
returns-in-None-clause-found g c = rw (← c.self.view_is) (sym (none_left _ _ (rw c.deref.ensures.value at c.in-None.ensures)).2)
