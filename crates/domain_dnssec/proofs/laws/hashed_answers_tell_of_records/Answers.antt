use Rattle.std.proofs.{Common.{◌∙◌, ap, subst, sym}, lemmas.List.Elements.All-contains_itself}
use Rattle.std.specs.Prelude.{All}
use Rattle.domain_answer.specs.HashedReading.{hashed_proved_answer}
use Rattle.domain_checker.{proofs.MeantLemmas.hashed_contained_alike, specs.Verdict.{IsHashedAlike, IsPairedIn}}
use Rattle.domain_any_order.proofs.AnyOrderLemmas.{of_zone}
use Rattle.domain_dnssec.proofs.laws.hashed_answers_tell_of_records.Goals as goal

pub returns-clause-some : goal.returns-clause-some
returns-clause-some g c = λ given R config mode links param x t answer leaves hash parameters chain among answered.
    of_zone c.sorted_owners_never_descend.ensures (λ L order is alone.
    let out = c.chains_leave_out_names_below_dname.ensures.chosen L R.apex config.occlude_below_dname leaves in
    answered L config links hash parameters out is.0 alone among) chain

pub returns-clause-all : goal.returns-clause-all
returns-clause-all g c = λ given R config mode links param x t answer leaves hash parameters chain same answered.
    of_zone c.sorted_owners_never_descend.ensures (λ L order is alone.
    let out = c.chains_leave_out_names_below_dname.ensures.chosen L R.apex config.occlude_below_dname leaves in
    let among = subst (All (IsPairedIn IsHashedAlike links)) (sym same) (hashed_contained_alike links links (All-contains_itself links)) in
    answered L config links hash parameters out is.0 alone among
    ∙ ap (λ ls. hashed_proved_answer L R.apex config ls x t) same
    ∙ c.hashed_whole_chains_prove_all.ensures.zone L R.apex config links x t out is.0 alone) chain
