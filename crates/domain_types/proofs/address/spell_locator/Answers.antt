use Rattle.std.proofs.Common.{subst}
use Rattle.std.specs.Net.Grammar.{IsGroup}
use Rattle.domain_types.specs.Addresses.{BeginsWithGroup}
use Rattle.domain_types.proofs.AddressLemmas.{one_rest}
use Rattle.domain_types.proofs.address.spell_locator.Goals as goal

pub returns-in_default-clause-none : goal.returns-in_default-clause-none
returns-in_default-clause-none c = λ octets is. c.in_default.ensures.none is.a is.after_a is.first

pub returns-in_default-split_group-clause-none : goal.returns-in_default-split_group-clause-none
returns-in_default-split_group-clause-none c = λ octets is.
    let first = one_rest _ _ _ _ _ is.first c.in-Some.ensures.some in
    c.in_default-split_group.ensures.none is.b is.after_b (subst (λ t. BeginsWithGroup t is.b is.after_b) first is.second)

pub returns-in_default-split_group-2-clause-none : goal.returns-in_default-split_group-2-clause-none
returns-in_default-split_group-2-clause-none c = λ octets is.
    let first = one_rest _ _ _ _ _ is.first c.in-Some.ensures.some in
    let second = one_rest _ _ _ _ _ (subst (λ t. BeginsWithGroup t is.b is.after_b) first is.second) c.in-Some-split_group.ensures.some in
    c.in_default-split_group-2.ensures.none is.c is.after_c (subst (λ t. BeginsWithGroup t is.c is.after_c) second is.third)

pub returns-in_default-read_group-clause-none : goal.returns-in_default-read_group-clause-none
returns-in_default-read_group-clause-none c = λ octets is.
    let first = one_rest _ _ _ _ _ is.first c.in-Some.ensures.some in
    let second = one_rest _ _ _ _ _ (subst (λ t. BeginsWithGroup t is.b is.after_b) first is.second) c.in-Some-split_group.ensures.some in
    let third = one_rest _ _ _ _ _ (subst (λ t. BeginsWithGroup t is.c is.after_c) second is.third) c.in-Some-split_group-2.ensures.some in
    c.in_default-read_group.ensures.none is.d (subst (λ t. IsGroup t is.d) third is.last)
