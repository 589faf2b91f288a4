-- records as text
use Rattle.std.{proofs.Common.{◌≡◌, ℕ, [], ◌∷◌, refl, ap, append_assoc}, specs.{Prelude.{Option, Some, None}, Fmt.◌++?◌}}
use Rattle.domain_octets.specs.{Octets.Octets, Text.space}
use Rattle.domain_base.specs.Numbers.{class_text}
use Rattle.domain_record.specs.Record.{spaced_class}

-- a class and the spaces beside it are one text
pub class_in_spaces : (class : ℕ) (rest : Option Octets) → Some (spaced_class class) ++? rest
    ≡ Some (space ∷ []) ++? (Some (class_text class) ++? (Some (space ∷ []) ++? rest))
class_in_spaces class None = refl
class_in_spaces class (Some rest) = ap (λ o. Some (space ∷ o)) (append_assoc (class_text class) (space ∷ []) rest)
