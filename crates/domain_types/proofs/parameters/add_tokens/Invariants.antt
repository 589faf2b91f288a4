use Rattle.std.proofs.Common.{map}
use Rattle.domain_svcb.specs.Gathered.{gathered}
use Rattle.domain_types.specs.Reading.{token_text}
use Rattle.domain_types.proofs.ParametersLemmas.{HaveAdded}
use Rattle.domain_types.proofs.parameters.add_tokens.Given as goal

abbrev pub invariant-loop-place : goal.invariant-loop-place
invariant-loop-place l = HaveAdded (map token_text l.tokens) l.place (gathered l.parameters)
