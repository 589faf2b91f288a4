use Rattle.std.proofs.Common.{map, get_or, arith, ap, ◌≡◌, true}
use Rattle.std.proofs.lemmas.{Grind.common_steps, Bool.Decides.nat_tests}
use Rattle.domain_types.specs.Reading.{token_text, has_inner_quote}
use Rattle.domain_types.proofs.ReadLemmas.{first_token, one_token, quoted_fault, inner_fault}
use Rattle.domain_types.proofs.read.put_quoted.Goals as goal

pub returns-in-Err-clause-err : goal.returns-in-Err-clause-err
returns-in-Err-clause-err c =
    quoted_fault (map token_text c.args.tokens.now) (token_text (get_or c.args.tokens.now 0 first_token)) c.in-Err.fault _ _
    (one_token c.args.tokens.now (grind (arith, common_steps, nat_tests))) c.in-Err.ensures.err c.fault_of.ensures.0 c.fault_of.ensures.1

pub returns-then-has_inner_quote-clause-err : goal.returns-then-has_inner_quote-clause-err
returns-then-has_inner_quote-clause-err c =
    let inner : has_inner_quote (token_text (get_or c.args.tokens.now 0 first_token)) ≡ true = grind (arith, common_steps, nat_tests) in
    inner_fault (map token_text c.args.tokens.now) (token_text (get_or c.args.tokens.now 0 first_token)) _ _
    (one_token c.args.tokens.now (grind (arith, common_steps, nat_tests))) inner (ap (λ f. f.token) c.first-then-has_inner_quote.ensures)
    (ap (λ f. f.kind) c.first-then-has_inner_quote.ensures)
