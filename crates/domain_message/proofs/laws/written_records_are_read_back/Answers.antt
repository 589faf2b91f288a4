use Rattle.std.{proofs.Common.{[], ◌<◌, ◌^◌, subst, ap, ◌∙◌, rules}, specs.Prelude.IfSome}
use Rattle.domain_octets.specs.Text.{words_of}
use Rattle.domain_names.specs.Name.{IsName}
use Rattle.domain_rdata.specs.{Zone.{HasExactText, data_text, rtype_of}, Scan.RdataText}
use Rattle.domain_message.proofs.OneLineLemmas.{record_back}
use Rattle.domain_message.proofs.laws.written_records_are_read_back.Goals as goal

pub returns : goal.returns
returns g c = λ exact.
    let r = c.args.value.now in
    let octets = g.O.Octets.octets in
    let labels = g.N.ToName.labels in
    let owned : IsName (labels r.owner) =
    subst IsName (c.as_wire-owner.ensures.labels ∙ ap labels c.owner.ensures) c.as_wire-owner.ensures.wire.valid in
    let timed : r.ttl < 2 ^ 32 = search rules in
    let classed : r.class < 65536 = search rules in
    let typed : rtype_of r.«data» < 65536 = search rules in
    let back =
    subst (λ d. HasExactText octets d → IfSome (data_text octets labels d) (λ t. RdataText octets labels (rtype_of d) (words_of t) d []))
    c.data.ensures c.data_is_read_back.ensures in
    record_back octets labels r owned timed classed typed (back exact)
