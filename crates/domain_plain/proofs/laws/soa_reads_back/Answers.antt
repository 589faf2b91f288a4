use Rattle.std.proofs.{Common.{refl, arith}, lemmas.Grind.common_steps}
use Rattle.domain_fields.proofs.ScanLemmas.{fields_line}
use Rattle.domain_plain.specs.Plain.{soa_layout, soa_values}
use Rattle.domain_plain.proofs.laws.soa_reads_back.Goals as goal

pub returns : goal.returns
returns g c = fields_line soa_layout (soa_values g.N.ToName.labels c.args.value.now) refl (grind (arith, common_steps))
