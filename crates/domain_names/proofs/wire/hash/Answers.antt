use Rattle.std.{proofs.{Common.arith, lemmas.{List.length-map, Grind.common_steps}}, specs.Char.to_ascii_lowercase}
use Rattle.domain_names.proofs.OrderLemmas.{lowered_wire}
use Rattle.domain_names.proofs.wire.hash.Goals as goal

pub returns : goal.returns
returns g c = rw (lowered_wire c.args.wire.now c.requires, length-map c.args.wire.now to_ascii_lowercase) (grind (arith, common_steps))
