use Rattle.std.{proofs.{Common.{◌≡◌, ◌∙◌, ap, sym, length, refl}, lemmas.List.take_at}, specs.List.Sorted.IsPermutation}
use Rattle.domain_record.specs.Record.{record_cmp, record_cmp_total}
use Rattle.domain_records.{specs.{Order.{AreInOrder, AreRanks, IsArranged}, Places.AreKnown}}
use Rattle.domain_records.{proofs.OrderLemmas.{arranged_sort, arranged_distinct, sort_of_none, first_of_none}}
use Rattle.domain_records.proofs.sort.sort.Goals as goal

pub returns-in_default-clause-ok : goal.returns-in_default-clause-ok
returns-in_default-clause-ok g c =
    sort_of_none _ _ _ (first_of_none _ (rw (c.in_default.is, c.deref.ensures.value) at c.first.ensures.value))

pub returns-then-are_ranks-clause-ok : goal.returns-then-are_ranks-clause-ok
returns-then-are_ranks-clause-ok g c =
    let R = record_cmp g.N.ToName.labels g.D.RecordData.rtype g.D.CanonicalOrd.canonical_cmp in
    let o = record_cmp_total g.N.ToName.labels g.D.RecordData.rtype g.D.CanonicalOrd.canonical_cmp g.met.D.CanonicalOrd.total in
    let xs = c.args.records.now.items in
    let places = c.in_ok-places.field-0.places.items in
    let ranks = c.in_ok-ranks.ranks.items in
    let ys = c.arrange.new.items in
    let known : AreKnown R xs c.in-Some.first.now c.in_ok-places.field-0 = rw c.deref-2.ensures.value at c.in_ok-places.ensures in
    let ranked : AreRanks places ranks = rw (c.deref-then-len.ensures.value, c.deref-then-len-2.ensures.value) at (c.if-are_ranks.ensures refl) in
    let up : AreInOrder R xs c.in-Some.first.now places ranks = record {
      all = sym (ap length c.deref-then-len.ensures.value) ∙ c.deref-then-len.ensures.len ∙ sym c.len.ensures ∙ c.if-len.true
          ∙ c.len-then-are_ascending.ensures ∙ sym c.deref-2.ensures.len ∙ ap length c.deref-2.ensures.value;
      inverse = ranked;
      ascend = known.ascend c.if-are_ascending.true;
    } in
    let put : IsArranged xs places ys = rw (c.deref_mut.ensures.value, c.deref_mut-then-are_ranks.ensures.value) at c.arrange.ensures.arranged in
    let moved : IsPermutation xs ys = rw c.deref_mut.ensures.value at c.arrange.ensures.moved in
    let m : length ys ≡ c.args.records.now.len = put.many ∙ (rw c.deref_mut.ensures.value at c.deref_mut.ensures.len) in
    rw (take_at ys _ c.args.records.now.len m) (record {
      sorted = arranged_sort o xs c.in-Some.first.now places ranks up ys put g.S.Sorter.is_stable moved;
      apart = λ on. arranged_distinct o xs c.in-Some.first.now places ranks up ys put (known.distinct on);
    })
