use Rattle.std.proofs.Common.{◌≡◌, ◌++◌, take, length}
use Rattle.domain_names.specs.{Text.{dotted_text, label_text}, Wire.{labels_of, IsWire}}
use Rattle.domain_names.proofs.text.put_labels.Given as goal

abbrev pub invariant-loop-label : goal.invariant-loop-label
invariant-loop-label l = record {
  wire : IsWire l.rest;
  left : l.text ++ dotted_text (labels_of l.rest) ≡ l.fn.text ++ dotted_text (labels_of l.name);
}

abbrev pub decreases-loop-label : goal.decreases-loop-label
decreases-loop-label l = length l.rest

abbrev pub invariant-loop-octet : goal.invariant-loop-octet
invariant-loop-octet l = l.text ≡ l.initial.text ++ label_text (take l.octet-index l.label)
