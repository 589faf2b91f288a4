use Rattle.std.proofs.{Common.{[], sym, ◌∙◌}, lemmas.List.get_or_past}
use Rattle.domain_nsec3.proofs.borrowed.lend_types.Goals as goal

pub returns : goal.returns
returns c = c.in-Ok.ensures.octets ∙ sym (get_or_past c.args.types.now c.args.place [] c.in_default.ensures.none)
