use Rattle.std.proofs.Common.{rules, ◌∙◌}
use Rattle.domain_bitmap.specs.Text.{dash}
use Rattle.domain_bitmap.proofs.salt.Nsec3Salt+O.from_str.Goals as goal

pub returns-then-eq-clause-ok : goal.returns-then-eq-clause-ok
returns-then-eq-clause-ok g c = rw (c.from_octets_unchecked.ensures ∙ c.from_builder.ensures ∙ c.empty.ensures) (dash c.args.text.now (search rules))
