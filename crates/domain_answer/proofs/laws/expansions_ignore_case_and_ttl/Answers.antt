use Rattle.domain_answer.proofs.AlikeLemmas.{expansion_alike}
use Rattle.domain_answer.proofs.laws.expansions_ignore_case_and_ttl.Goals as goal

pub returns : goal.returns
returns c = λ R other x n answer h read. expansion_alike R other h x n answer read
