use Rattle.std.{proofs.Common.{◌≡◌, ◌∙◌, ℕ, length, take, get_or}, specs.declared.cmp.Ordering.TheVariants.Less}
use Rattle.domain_record.specs.Record.{record_cmp}
use Rattle.domain_records.{specs.Order.compared_places, proofs.OrderLemmas.known_more}
use Rattle.domain_records.proofs.sort.Places.push.Goals as goal

pub returns : goal.returns
returns g c =
    let R = record_cmp g.N.ToName.labels g.D.RecordData.rtype g.D.CanonicalOrd.canonical_cmp in
    let xs = c.args.records.now in
    let d = c.args.first.now in
    let old = c.args.self.now.places.items in
    let new = c.push_owner.new.places.items in
    let kept : old ≡ take (length old) new = c.in_ok-push_owner.ensures in
    let count : c.len-start.result ≡ length old = c.len-start.ensures ∙ c.args.self.now.places.ok.0 in
    let checked = c.check_places-are_ascending in record {
      ascend = known_more (λ (a b : ℕ). compared_places R xs d a b ≡ Less) old new c.deref.result.now c.len-start.result c.saturating_sub.result
          _ _ count c.saturating_sub.ensures c.deref.ensures.value kept c.requires.ascend checked.ensures.ascend;
      distinct = known_more (λ (a b : ℕ). R (get_or xs a d) (get_or xs b d) ≡ Less) old new c.deref.result.now c.len-start.result c.saturating_sub.result
          _ _ count c.saturating_sub.ensures c.deref.ensures.value kept c.requires.distinct checked.ensures.distinct;
    }
