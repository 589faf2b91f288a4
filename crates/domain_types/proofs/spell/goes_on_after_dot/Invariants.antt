use Rattle.std.proofs.Common.{◌≡◌, drop}
use Rattle.std.specs.Prelude.{fold}
use Rattle.domain_types.specs.Spelling.{going_on}
use Rattle.domain_types.specs.declared.spell.Going.TheVariants.{Inside}
use Rattle.domain_types.proofs.spell.goes_on_after_dot.Given as goal

abbrev pub invariant-loop-c : goal.invariant-loop-c
invariant-loop-c l = fold going_on Inside l.text ≡ fold going_on l.going (drop l.c-index l.text)
