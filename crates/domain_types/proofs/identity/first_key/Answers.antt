use Rattle.std.proofs.Common.{◌≡◌, ◌≤◌, false, length, get_or, arith}
use Rattle.std.proofs.lemmas.{Grind.common_steps, Bool.Decides.nat_tests}
use Rattle.domain_types.specs.Reading.{token_text}
use Rattle.domain_types.proofs.ReadLemmas.{first_token, first_parts}
use Rattle.domain_types.proofs.identity.first_key.Goals as goal

pub returns-in-Ok-2-clause-ok : goal.returns-in-Ok-2-clause-ok
returns-in-Ok-2-clause-ok c =
    let token = token_text (get_or c.args.tokens.now 0 first_token) in
    let unquoted : token.is_quoted ≡ false = grind (arith, common_steps, nat_tests) in
    let fits : length c.in-Ok.key.items ≤ 65535 = grind (arith, common_steps, nat_tests) in
    record {
      token = token;
      parts = first_parts c.args.tokens.now (grind (arith, common_steps, nat_tests));
      holds = record { unquoted = unquoted; decodes = c.in-Ok.ensures.ok; fits = fits };
    }
