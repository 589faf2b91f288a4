use Rattle.std.proofs.Common.{◌≡◌, ◌++◌, take, drop}
use Rattle.domain_names.specs.Text.{label_text}
use Rattle.domain_names.proofs.text.is_ordinary_label.Given as goal

abbrev pub invariant-loop-octet : goal.invariant-loop-octet
invariant-loop-octet l = label_text l.label ≡ take l.octet-index l.label ++ label_text (drop l.octet-index l.label)
