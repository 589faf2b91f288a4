use Rattle.domain_types.specs.Reading.{token_text}
use Rattle.domain_types.proofs.NameLemmas.{none_named}
use Rattle.domain_types.proofs.name.read_name.Goals as goal

pub returns-in-Err-Invalid-clause-err : goal.returns-in-Err-Invalid-clause-err
returns-in-Err-Invalid-clause-err c = none_named c.args.origin.now (token_text c.args.token.now) (rw c.in-Err-Invalid.field-0-is
    at c.in-Err-Invalid.ensures.err)
