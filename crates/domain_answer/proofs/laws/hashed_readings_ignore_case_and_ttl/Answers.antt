use Rattle.domain_answer.proofs.AlikeLemmas.{read_alike}
use Rattle.domain_answer.proofs.laws.hashed_readings_ignore_case_and_ttl.Goals as goal

pub returns : goal.returns
returns c = λ R other x t answer h read. read_alike R other h x t answer read
