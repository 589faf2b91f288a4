use Rattle.domain_checker.proofs.HashedVerdictLemmas.{cover_denies, match_is_of_name}
use Rattle.domain_checker.proofs.laws.hashes_tell_of_names.Goals as goal

pub returns-clause-matches : goal.returns-clause-matches
returns-clause-matches c = λ L a config links chain. match_is_of_name (c.hashed_chains_are_known.ensures L a config links chain)

pub returns-clause-covers : goal.returns-clause-covers
returns-clause-covers c = λ L a config links chain. cover_denies (c.hashed_chains_are_known.ensures L a config links chain)
