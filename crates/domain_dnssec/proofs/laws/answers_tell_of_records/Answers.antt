use Rattle.std.proofs.{Common.{◌∙◌, subst}, lemmas.List.Elements.All-contains_itself}
use Rattle.domain_answer.specs.Reading.{IsAnswered}
use Rattle.domain_checker.proofs.MeantLemmas.{contained_alike}
use Rattle.domain_any_order.proofs.AnyOrderLemmas.{of_zone}
use Rattle.domain_dnssec.proofs.laws.answers_tell_of_records.Goals as goal

pub returns-clause-some : goal.returns-clause-some
returns-clause-some g c = λ given apex config links listed x t answer leaves chain among proved.
    of_zone c.sorted_owners_never_descend.ensures (λ L order is.
    proved L config links (c.chains_leave_out_names_below_dname.ensures.chosen L apex config.occlude_below_dname leaves) order is among) chain

pub returns-clause-all : goal.returns-clause-all
returns-clause-all g c = λ given apex config links listed x t answer leaves chain same proved.
    of_zone c.sorted_owners_never_descend.ensures (λ L order is.
    let out = c.chains_leave_out_names_below_dname.ensures.chosen L apex config.occlude_below_dname leaves in
    subst (λ ls. IsAnswered ls apex x t answer) same proved L config links out order is (contained_alike links links (All-contains_itself links))
    ∙ c.whole_chains_prove_all.ensures.zone L apex config links x t out order is) chain
