use Rattle.std.proofs.{Common.arith, lemmas.Grind.common_steps}
use Rattle.domain_names.{specs.Wire.labels_of, proofs.{OrderLemmas.{compared_begins, compared_goes, compared_ends, same_octets}, WireLemmas.few_labels}}
use Rattle.domain_names.proofs.wire.compare_from_leaf.Goals as goal

pub labels-init : goal.labels-init
labels-init c = grind (arith, common_steps, (compared_begins (labels_of c.args.a.now) (labels_of c.args.b.now)), few_labels)

pub labels-preserved : goal.labels-preserved
labels-preserved c = record {
  x_wire = grind (arith, common_steps);
  y_wire = grind (arith, common_steps);
  compared = compared_goes c.labels.invariant.compared c.in-Some-Some.label.now c.in-Some-Some.other.now c.lowered_octets_cmp-here.result _ _
      (grind (arith, common_steps)) (grind (arith, common_steps)) c.lowered_octets_cmp-here.ensures (grind (arith, common_steps)) (grind (arith, common_steps));
}

pub returns-clause-order : goal.returns-clause-order
returns-clause-order c = grind (arith, common_steps, (compared_ends c.labels.invariant.compared), same_octets)

pub returns-clause-common : goal.returns-clause-common
returns-clause-common c = grind (arith, common_steps, (compared_ends c.labels.invariant.compared), same_octets)
