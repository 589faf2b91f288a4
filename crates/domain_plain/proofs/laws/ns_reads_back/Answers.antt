use Rattle.std.proofs.{Common.{refl, arith}, lemmas.Grind.common_steps}
use Rattle.domain_fields.proofs.ScanLemmas.{fields_line}
use Rattle.domain_plain.specs.Plain.{ns_layout, ns_values}
use Rattle.domain_plain.proofs.laws.ns_reads_back.Goals as goal

pub returns : goal.returns
returns g c = fields_line ns_layout (ns_values g.N.ToName.labels c.args.value.now) refl (grind (arith, common_steps))
