use Rattle.std.proofs.Common.{map, sym}
use Rattle.domain_types.specs.Reading.{token_text}
use Rattle.domain_zonefile.proofs.LineLemmas.{lent, not_type}
use Rattle.domain_zonefile.proofs.body.read_typed.Goals as goal

pub returns-in-None-clause-err : goal.returns-in-None-clause-err
returns-in-None-clause-err c =
    rw c.fault-in-None.ensures
    (not_type (map token_text c.args.tokens.now) c.in-Ok.prefix (token_text c.in-Some.token.now) (sym c.in-Ok.ensures)
    (lent c.args.tokens.now _ c.in-Some.token c.in-Some.ensures.lookup) c.in-None.ensures.none)
