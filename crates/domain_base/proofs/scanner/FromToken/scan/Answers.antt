use Rattle.domain_base.proofs.TextLemmas.{token_read}
use Rattle.domain_base.proofs.scanner.FromToken.scan.Goals as goal

pub returns : goal.returns
returns g c = token_read _ _ _ _ _ _ _ c.in-Some.ensures c.skip_token.ensures c.from_token-value.ensures.ok c.from_token-value.ensures.err
