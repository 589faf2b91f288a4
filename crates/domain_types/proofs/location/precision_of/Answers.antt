use Rattle.std.proofs.Common.{ℕ, refl, subst, sym}
use Rattle.domain_types.specs.Reading.{token_text, LocationTokenFault, SpellsPrecision}
use Rattle.domain_types.proofs.location.precision_of.Goals as goal

pub returns-in-None-clause-err : goal.returns-in-None-clause-err
returns-in-None-clause-err c =
    subst (LocationTokenFault (λ t. (octet : ℕ) × SpellsPrecision t octet) (token_text c.args.token.now)) (sym c.no_part.ensures)
    (refl, λ it. c.in-None.ensures.none it.0 it.1.text)
