use Rattle.std.proofs.{Common.{rules, is_lt}, lemmas.Fn.always_returns_same}
use Rattle.domain_record.specs.Record.{record_cmp, record_cmp_total}
use Rattle.domain_records.proofs.OrderLemmas.{neighbours_less, sorted_by_neighbours}
use Rattle.domain_records.proofs.sort.are_strictly_sorted.Goals as goal

pub returns : goal.returns
returns g c = λ on.
    let R = record_cmp g.N.ToName.labels g.D.RecordData.rtype g.D.CanonicalOrd.canonical_cmp in
    let o = record_cmp_total g.N.ToName.labels g.D.RecordData.rtype g.D.CanonicalOrd.canonical_cmp g.met.D.CanonicalOrd.total in
    sorted_by_neighbours o _
    (neighbours_less R _ _ (c.is_sorted_by.ensures.cases (λ a b. is_lt (R a b)) (always_returns_same _ _ _ (λ a r h called. search rules))) on)
