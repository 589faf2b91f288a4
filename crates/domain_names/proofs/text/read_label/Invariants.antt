use Rattle.std.proofs.Common.{◌≤◌, length}
use Rattle.domain_names.proofs.TextLemmas.{Spelling}
use Rattle.domain_names.proofs.text.read_label.Given as goal

abbrev pub invariant-loop-octet : goal.invariant-loop-octet
invariant-loop-octet l = record { read : Spelling l.fn.text l.rest l.label; fits : length l.label ≤ 63 }

abbrev pub decreases-loop-octet : goal.decreases-loop-octet
decreases-loop-octet l = length l.rest
