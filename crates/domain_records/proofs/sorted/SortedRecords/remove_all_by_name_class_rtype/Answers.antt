use Rattle.std.proofs.{Common.{sym, not, rules}, lemmas.{Fn.filter_same, List.Kept.IsStrictlySortedBy-filter}}
use Rattle.domain_record.specs.declared.record.Record.{Record}
use Rattle.domain_records.{specs.Sorted.record_matches, proofs.LookupLemmas.{none_left, first_left}}
use Rattle.domain_records.proofs.sorted.SortedRecords.remove_all_by_name_class_rtype.Goals as goal

pub invariant_of-self : goal.invariant_of-self
invariant_of-self g c =
    let p = λ (r : Record g.row.N.Denot g.row.D.Denot). not
    (record_matches g.N.ToName.labels g.D.RecordData.rtype (g.N.ToName.labels c.args.name.now) c.args.class c.args.rtype r) in
    rw (filter_same _ p _ (λ x b f' k. search rules) _ _ c.retain.ensures.filtered) (IsStrictlySortedBy-filter _ p _ c.self.invariant)

pub returns-in-Some-clause-kept : goal.returns-in-Some-clause-kept
returns-in-Some-clause-kept g c =
    let p = λ (r : Record g.row.N.Denot g.row.D.Denot). not
    (record_matches g.N.ToName.labels g.D.RecordData.rtype (g.N.ToName.labels c.args.name.now) c.args.class c.args.rtype r) in
    rw (← c.self.view_is) (filter_same _ p _ (λ x b f' k. search rules) _ _ c.retain.ensures.filtered)

pub returns-in-Some-clause-found : goal.returns-in-Some-clause-found
returns-in-Some-clause-found g c = rw (← c.self.view_is) (sym (first_left _ _ _ (rw c.deref.ensures.value at c.in-Some.ensures)).1)

pub returns-in-None-clause-kept : goal.returns-in-None-clause-kept
returns-in-None-clause-kept g c = rw (← c.self.view_is) (sym (none_left _ _ (rw c.deref.ensures.value at c.in-None.ensures)).0)

pub returns-in-None-clause-found : goal.returns-in-None-clause-found
returns-in-None-clause-found g c = rw (← c.self.view_is) (sym (none_left _ _ (rw c.deref.ensures.value at c.in-None.ensures)).2)
