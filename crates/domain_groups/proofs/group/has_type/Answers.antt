use Rattle.std.proofs.Common.{◌≡◌, ◌↔◌, IsTrue, rules}
use Rattle.domain_record.specs.declared.record.Record.{Record}
use Rattle.domain_groups.{specs.Groups.items_of, proofs.GroupLemmas.{first_by, some_first}}
use Rattle.domain_groups.proofs.group.has_type.Goals as goal

pub returns : goal.returns
returns g c =
    let Q = λ (r : Record g.row.N.Denot g.row.D.Denot). g.D.RecordData.rtype r.data ≡ c.args.wanted in
    let first = first_by _ _ (items_of c.args.records.now) (λ r b. IsTrue b ↔ Q r) (λ a b called. search rules) _ c.first_match.ensures in
    rw c.is_some.ensures (some_first Q _ _ first)
