use Rattle.std.proofs.Common.{map, subst, sym, arith}
use Rattle.std.proofs.lemmas.{Grind.common_steps, Bool.Decides.nat_tests}
use Rattle.domain_types.specs.Reading.{token_text, FirstTokenFault, LocationTokenFault, CanStep, degrees}
use Rattle.domain_types.proofs.LocationLemmas.{first_is_none}
use Rattle.domain_types.proofs.location.first_degrees.Goals as goal

pub returns-in-None-clause-err : goal.returns-in-None-clause-err
returns-in-None-clause-err c =
    subst (FirstTokenFault (LocationTokenFault (CanStep c.args.axis.now degrees 0)) (map token_text c.args.tokens.now)) (sym c.no_part.ensures)
    (first_is_none (CanStep c.args.axis.now degrees 0) c.args.tokens.now (grind (arith, common_steps, nat_tests)) (λ it. c.in-None.ensures.none it.0 it.1))
