use Rattle.std.proofs.{Common.arith, lemmas.Grind.common_steps}
use Rattle.domain_names.{specs.Wire.labels_of, proofs.TextLemmas.behind_dot}
use Rattle.domain_names.proofs.text.write_labels.Goals as goal

pub from_utf8_unchecked-requires : goal.from_utf8_unchecked-requires
from_utf8_unchecked-requires g c = behind_dot (labels_of c.args.name.now) c.as_slice.result.now _ c.requires.valid (grind (arith, common_steps))
