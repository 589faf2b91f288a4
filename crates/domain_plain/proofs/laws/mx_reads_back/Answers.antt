use Rattle.std.proofs.{Common.{refl, arith, append_assoc}, lemmas.Grind.common_steps}
use Rattle.domain_fields.proofs.ScanLemmas.{fields_line}
use Rattle.domain_plain.specs.Plain.{mx_layout, mx_values}
use Rattle.domain_plain.proofs.laws.mx_reads_back.Goals as goal

pub returns : goal.returns
returns g c = simp append_assoc (fields_line mx_layout (mx_values g.N.ToName.labels c.args.value.now) refl (grind (arith, common_steps)))
