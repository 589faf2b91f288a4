use Rattle.std.proofs.{Common.{rules, is_lt}, lemmas.Fn.always_returns_same}
use Rattle.domain_record.specs.Record.{record_cmp}
use Rattle.domain_records.specs.Order.{compared_places}
use Rattle.domain_records.proofs.OrderLemmas.{neighbours_less}
use Rattle.domain_records.proofs.sort.are_ascending.Goals as goal

pub returns : goal.returns
returns g c = λ on.
    let R = compared_places (record_cmp g.N.ToName.labels g.D.RecordData.rtype g.D.CanonicalOrd.canonical_cmp) c.args.records.now c.args.first.now in
    neighbours_less R _ _ (c.is_sorted_by.ensures.cases (λ a b. is_lt (R a b)) (always_returns_same _ _ _ (λ a r h called. search rules))) on
