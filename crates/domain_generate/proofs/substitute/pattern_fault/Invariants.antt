use Rattle.std.proofs.Common.{◌≡◌, ◌≤◌, ◌-◌, length, drop}
use Rattle.domain_generate.specs.Patterns.{pattern_parts, pattern_fault}
use Rattle.domain_generate.proofs.substitute.pattern_fault.Given as goal

-- no part so far has a fault
abbrev pub invariant-parts : goal.invariant-parts
invariant-parts l = record {
  within : l.at ≤ length l.pattern;
  all : pattern_fault l.first l.last (pattern_parts (drop l.at l.pattern)) ≡ pattern_fault l.first l.last (pattern_parts l.pattern);
}

abbrev pub decreases-parts : goal.decreases-parts
decreases-parts l = length l.pattern - l.at
