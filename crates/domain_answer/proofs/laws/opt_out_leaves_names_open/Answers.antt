use Rattle.domain_zone.proofs.NameLemmas.{below_itself}
use Rattle.domain_checker.proofs.MeantLemmas.{apex_from}
use Rattle.domain_nsec3.specs.Chain.{original_owners}
use Rattle.domain_answer.proofs.OptOutLemmas.{excluded_open, one_kind, open_says, opt_out_alike, says_open}
use Rattle.domain_answer.proofs.laws.opt_out_leaves_names_open.Goals as goal

pub returns-clause-zone : goal.returns-clause-zone
returns-clause-zone c = λ L a config x t leaves apex apart. opt_out_alike L a config x t leaves (c.types_ignore_case.ensures L a config) apex apart

pub returns-clause-one : goal.returns-clause-one
returns-clause-one c = λ L a config x t answer leaves apex apart is.
    one_kind L a config x t leaves (c.types_ignore_case.ensures L a config) apex apart answer is

pub returns-clause-left_open : goal.returns-clause-left_open
returns-clause-left_open c = λ L a config x t n. (says_open L a config x t n, open_says L a config x t n)

pub returns-clause-excluded : goal.returns-clause-excluded
returns-clause-excluded c = λ L a config cut x t leaves apex out is_cut free gone under asks.
    open_says L a config x t _ (excluded_open L a config cut x t leaves apex out is_cut free gone under asks)

pub returns-clause-apex : goal.returns-clause-apex
returns-clause-apex c = λ L a config links chain.
    let e = (c.chains_mean_the_zone.ensures L a config links chain).enclosers.encloser a (below_itself a) in
    apex_from (original_owners L a config) a e.0 e.1.found
