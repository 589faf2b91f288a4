use Rattle.std.proofs.Common.{arith, map, sym, ◌∙◌}
use Rattle.domain_types.specs.Reading.{token_text}
use Rattle.domain_zonefile.proofs.LineLemmas.{large_small, prefix_small}
use Rattle.domain_generate.proofs.generation.prefix_arguments.Goals as goal

pub overflow_add-e : goal.overflow_add-e
overflow_add-e c =
    let small = large_small (map token_text c.tokens_from.result.now) c.in-Err.e (sym c.read_prefix.ensures ∙ c.in-Err.is) in
    omega (arith, small)

pub returns-in-Ok-clause-few : goal.returns-in-Ok-clause-few
returns-in-Ok-clause-few c =
    prefix_small (map token_text c.tokens_from.result.now) c.in-Ok.prefix (sym c.read_prefix.ensures ∙ c.in-Ok.is)
