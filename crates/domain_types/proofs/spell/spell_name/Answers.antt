use Rattle.std.proofs.Common.{subst}
use Rattle.domain_octets.specs.Octets.{Octets}
use Rattle.domain_types.specs.Spelling.{NameField}
use Rattle.domain_types.proofs.spell.spell_name.Goals as goal

pub returns-clause-err : goal.returns-clause-err
returns-clause-err c = subst (λ l. (octets : Octets) → NameField l c.args.text.now octets → ⊥) c.as_wire-3.ensures.labels c.in-None.ensures.none
