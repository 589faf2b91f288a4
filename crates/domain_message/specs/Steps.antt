-- how a name is read, step by step
use Rattle.std.specs.Prelude.{◌≡◌, ℕ, ◌+◌, ◌≤◌, ◌∷◌, ◌++◌, length, drop}
use Rattle.domain_octets.specs.Octets.{Octets}
use Rattle.domain_names.specs.Name.{IsLabel}
use Rattle.domain_message.specs.{Name.{pointer_octets, IsBackward}, declared.name.Step.{Step, TheVariants.{Root, Label, Pointer}}}

-- the step at place `at` is the root, a label with room for the root after it, or a pointer to an
-- earlier place than `start`, where the labels before it began; `used` octets of the name have been
-- read
pub data IsStep (message : Octets) (start at used : ℕ) : Step → Type 0 where
  at_root : (after : Octets) → drop at message ≡ 0 ∷ after → IsStep message start at used Root
  at_label : (text after : Octets) (end : ℕ) → IsLabel text
      → drop at message ≡ length text ∷ (text ++ after) → used + length text + 2 ≤ 255
      → end ≡ at + 1 + length text → IsStep message start at used (Label end)
  at_pointer : (target : ℕ) (after : Octets) → drop at message ≡ pointer_octets target ++ after
      → IsBackward start target → IsStep message start at used (Pointer target)
