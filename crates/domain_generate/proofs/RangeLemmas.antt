-- The values of a range are at most its end.
use Rattle.std.proofs.Common.{arith, ℕ, ◌+◌, ◌-◌, ◌*◌, ◌/◌, ◌<◌, ◌≤◌, ◌≡◌, Some}
use Rattle.std.proofs.lemmas.Grind.{common_steps}
use Rattle.std.proofs.Math.Nat.{div-mul-le_self, mul-le-mul_right}
use Rattle.domain_generate.specs.Ranges.{IsRange, value_at}
use Rattle.domain_generate.specs.declared.range.ValueRange.{ValueRange}

pub value_within : (i step span : ℕ) → i < span / step + 1 → i * step ≤ span
value_within i step span h =
    let few : i ≤ span / step = omega arith in
    omega (arith, mul-le-mul_right step few, div-mul-le_self span step)

pub values_within : (range : ValueRange) (i value : ℕ) → IsRange range → value_at range i ≡ Some value → (range.start ≤ value) × (value ≤ range.stop)
values_within range i value is h =
    let within : i < (range.stop - range.start) / range.step + 1 → i * range.step ≤ range.stop - range.start = value_within i range.step
    (range.stop - range.start) in
    grind (arith, common_steps, within, is.ordered, h)
