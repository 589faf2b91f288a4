use Rattle.std.proofs.{Common.{◌++◌, ◌∷◌, refl, sym, ap, ◌∙◌, arith}, Output.{has_written_append, writes_in_calls_nil}, lemmas.Grind.common_steps}
use Rattle.domain_base.specs.Numbers.{type_text}
use Rattle.domain_bitmap.specs.Text.{types_text, spaced_types}
use Rattle.domain_bitmap.proofs.bitmap.RtypeBitmapDisplay.fmt.Goals as goal

pub returns-in_default-clause-writes : goal.returns-in_default-clause-writes
unfolding types_text
returns-in_default-clause-writes g c = λ plain done.
    rw (sym c.iter-types.ensures ∙ c.in_default.ensures.steps.0) (record { wrote = writes_in_calls_nil _ _; plain = plain })

pub loop-rtype-init : goal.loop-rtype-init
unfolding types_text
loop-rtype-init g c =
    λ plain. (type_text c.in-Some.first, ap types_text (sym c.iter-types.ensures ∙ c.in-Some.ensures.steps), c.in_ok-write.ensures.writes plain refl)

pub loop-rtype-preserved : goal.loop-rtype-preserved
unfolding spaced_types
loop-rtype-preserved g c =
    λ plain. let so_far = c.loop-rtype.invariant plain in (
      so_far.0 ++ (32 ∷ type_text c.in-Some-next.rtype),
      grind (arith, common_steps),
      has_written_append _ _ _ _ _ _ so_far.2 (c.in_ok-write-2.ensures.writes so_far.2.plain refl),
    )

pub returns-clause-writes : goal.returns-clause-writes
unfolding spaced_types
returns-clause-writes g c = grind (arith, common_steps)
