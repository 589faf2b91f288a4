use Rattle.domain_any_order.proofs.any_order.generate_nsecs_of_records.Goals as goal

pub returns-clause-ok : goal.returns-clause-ok
returns-clause-ok g c = record {
  sorted = c.in_ok-sorted.sorted;
  sorts = c.in_ok-sorted.ensures.sorts;
  one_class = c.in_ok-sorted.ensures.one_class;
  zone = rw c.owner_rrs.ensures.records at c.in_ok-generate_nsecs.ensures.chain;
}

pub returns-clause-faultless : goal.returns-clause-faultless
returns-clause-faultless g c = record {
  sorted = c.in_ok-sorted.sorted;
  sorts = c.in_ok-sorted.ensures.sorts;
  one_class = c.in_ok-sorted.ensures.one_class;
  zone = rw c.owner_rrs.ensures.records at c.in_ok-generate_nsecs.ensures.faultless;
}
