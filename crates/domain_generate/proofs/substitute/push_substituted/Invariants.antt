use Rattle.std.proofs.Common.{◌≡◌, ◌≤◌, ◌-◌, ◌++◌, length, drop}
use Rattle.std.specs.List.{flat_map}
use Rattle.domain_generate.specs.Patterns.{part_text, pattern_parts, substituted}
use Rattle.domain_generate.proofs.substitute.push_substituted.Given as goal

-- what was appended and the parts that are left are all of it
abbrev pub invariant-parts : goal.invariant-parts
invariant-parts l = record {
  within : l.at ≤ length l.pattern;
  all : l.line.items ++ flat_map (part_text l.is_quoted l.value) (pattern_parts (drop l.at l.pattern))
      ≡ l.fn.line.items ++ substituted l.is_quoted l.value l.pattern;
}

abbrev pub decreases-parts : goal.decreases-parts
decreases-parts l = length l.pattern - l.at
