use Rattle.std.proofs.{Common.arith, lemmas.Grind.common_steps}
use Rattle.domain_base.proofs.TextLemmas.{token_read}
use Rattle.domain_base.proofs.scanner.IterScannerScanner.convert_token.Goals as goal

pub returns-clause-read : goal.returns-clause-read
returns-clause-read g c = token_read _ _ _ _ _ _ _ c.in-Some.ensures c.skip_token.ensures (grind (arith, common_steps)) (grind (arith, common_steps))
