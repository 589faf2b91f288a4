-- Faults of texts.
use Rattle.domain_svcb.specs.Strings.{SpellsNothing}
use Rattle.domain_svcb.specs.declared.fault.SpellFault.{SpellFault, TheVariants.{Invalid, OutOfMemory}}

-- a fault of a text is one of another text, if that spells a value only where the first one does
pub nothing_from : {V W : Type 0} (P : V → Type 0) (Q : W → Type 0) (fault : SpellFault)
    → (((v : V) → P v → ⊥) → (w : W) → Q w → ⊥) → SpellsNothing P fault → SpellsNothing Q fault
nothing_from P Q Invalid step none = step none
nothing_from P Q OutOfMemory step none = tt
