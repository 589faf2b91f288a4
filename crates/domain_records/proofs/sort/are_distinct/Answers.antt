use Rattle.std.proofs.{Common.{ℕ, rules, get_or, is_lt}, lemmas.Fn.always_returns_same}
use Rattle.domain_record.specs.Record.{record_cmp}
use Rattle.domain_records.proofs.OrderLemmas.{neighbours_less}
use Rattle.domain_records.proofs.sort.are_distinct.Goals as goal

pub returns : goal.returns
returns g c = λ on.
    let R = record_cmp g.N.ToName.labels g.D.RecordData.rtype g.D.CanonicalOrd.canonical_cmp in
    let at = λ (k : ℕ). get_or c.args.records.now k c.args.first.now in
    neighbours_less (λ a b. R (at a) (at b)) _ _
    (c.is_sorted_by.ensures.cases (λ a b. is_lt (R (at a) (at b))) (always_returns_same _ _ _ (λ a r h called. search rules))) on
