use Rattle.std.proofs.Common.{◌≡◌, drop}
use Rattle.lint_hints.specs.Shapes.{to_come}
use Rattle.lint_hints.proofs.odd.are_texts.Given as goal

abbrev pub invariant-loop-octet : goal.invariant-loop-octet
invariant-loop-octet l = to_come l.left (drop l.octet-index l.octets) ≡ to_come 0 l.octets
