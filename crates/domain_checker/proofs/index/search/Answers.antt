use Rattle.domain_checker.proofs.IndexLemmas.{found_by_one}
use Rattle.domain_checker.proofs.index.search.Goals as goal

pub returns-in-Some : goal.returns-in-Some
returns-in-Some g c = found_by_one _ c.requires c.args.hash.now _ c.in-Some.ensures _ _ c.told_by.ensures
