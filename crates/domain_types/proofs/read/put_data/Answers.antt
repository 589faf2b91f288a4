use Rattle.std.proofs.Common.{subst}
use Rattle.domain_types.specs.Reading.{GenericTextsFault, in_generic}
use Rattle.domain_types.proofs.ReadLemmas.{tokens_left}
use Rattle.domain_types.proofs.read.put_data.Goals as goal

pub returns-in-Err-clause-err : goal.returns-in-Err-clause-err
returns-in-Err-clause-err c = in_generic (c.is_marked.ensures.0 c.if-is_marked.true)
    (subst (λ ts. GenericTextsFault c.args.rtype ts c.in-Err.fault.token c.in-Err.fault.kind) (tokens_left c.args.tokens.now 1) c.in-Err.ensures.err)
