use Rattle.std.proofs.Common.{◌∙◌}
use Rattle.domain_zone.proofs.GivenLemmas.{wanted_octets}
use Rattle.domain_zone.proofs.owners.list_types.Goals as goal

pub returns : goal.returns
returns g c =
    rw (← c.records.ensures) (c.finalize.ensures ∙ wanted_octets _ _ _ _ _ _ _ _ _ _ _ c.with_builder-types.ensures.empty c.in_ok-add_wanted.ensures
    c.in_ok-add_wanted-2.ensures c.in_ok-add_wanted-3.ensures c.in_ok-add_types.ensures)
