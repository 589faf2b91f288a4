use Rattle.std.proofs.{Common.{◌∙◌, subst}, lemmas.List.Elements.All-contains_itself}
use Rattle.domain_checker.{proofs.MeantLemmas.contained_alike, specs.Verdict.IsProved}
use Rattle.domain_any_order.proofs.AnyOrderLemmas.{of_zone}
use Rattle.domain_dnssec.proofs.laws.verdicts_tell_of_records.Goals as goal

pub returns-clause-some : goal.returns-clause-some
returns-clause-some g c = λ given apex config links listed x t verdict keeps chain among proved.
    of_zone c.sorted_owners_never_descend.ensures (λ L order is. proved L config links keeps order is among) chain

pub returns-clause-all : goal.returns-clause-all
returns-clause-all g c = λ given apex config links listed x t verdict keeps chain same proved.
    of_zone c.sorted_owners_never_descend.ensures (λ L order is.
    subst (λ ls. IsProved ls apex x t verdict) same proved L config links keeps order is (contained_alike links links (All-contains_itself links))
    ∙ c.whole_chains_prove_all.ensures.zone L apex config links x t keeps order is) chain
