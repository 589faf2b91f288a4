use Rattle.std.proofs.Common.{◌*◌, ◌≤◌, length, subst, sym, ◌∙◌, arith}
use Rattle.std.proofs.lemmas.{Grind.common_steps, Bool.Decides.nat_tests}
use Rattle.domain_base.specs.Scan.{IsNumber}
use Rattle.domain_types.specs.Prefixes.{SplitsLast, FamilyAddress, colon}
use Rattle.domain_octets.specs.Text.{slash}
use Rattle.domain_types.proofs.PrefixLemmas.{mark_in, one_first_split, one_last_split, one_number, same_size}
use Rattle.domain_types.proofs.prefix.spell_item.Goals as goal

pub returns-in_default-clause-none : goal.returns-in_default-clause-none
returns-in_default-clause-none c = λ octets is. mark_in colon c.args.text.now is.family_text is.after_colon is.colon_is.parts c.in_default.ensures.none

pub returns-in_default-split_last-clause-none : goal.returns-in_default-split_last-clause-none
returns-in_default-split_last-clause-none c = λ octets is.
    let first = one_first_split colon c.args.text.now is.family_text c.in-Some.family.now is.after_colon c.in-Some.rest.now is.colon_is
    c.in-Some.ensures.some in
    mark_in slash c.in-Some.rest.now is.address_text is.size_text (sym first.1 ∙ is.slash_is.parts) c.in_default-split_last.ensures.none

pub returns-in_default-number_of-clause-none : goal.returns-in_default-number_of-clause-none
returns-in_default-number_of-clause-none c = λ octets is.
    let first = one_first_split colon c.args.text.now is.family_text c.in-Some.family.now is.after_colon c.in-Some.rest.now is.colon_is
    c.in-Some.ensures.some in
    c.in_default-number_of.ensures.none is.family (subst (λ t. IsNumber 16 t is.family) first.0 is.family_is)

pub returns-in_default-small_number-clause-none : goal.returns-in_default-small_number-clause-none
returns-in_default-small_number-clause-none c = λ octets is.
    let first = one_first_split colon c.args.text.now is.family_text c.in-Some.family.now is.after_colon c.in-Some.rest.now is.colon_is
    c.in-Some.ensures.some in
    let last = one_last_split slash c.in-Some.rest.now is.address_text c.in-Some-split_last.address.now is.size_text c.in-Some-split_last.size.now
    (subst (λ t. SplitsLast slash t is.address_text is.size_text) first.1 is.slash_is) c.in-Some-split_last.ensures.some in
    c.in_default-small_number.ensures.none is.size (subst (λ t. IsNumber 8 t is.size) last.1 is.size_is)

pub returns-in_default-spell_address-clause-none : goal.returns-in_default-spell_address-clause-none
returns-in_default-spell_address-clause-none c = λ octets is.
    let first = one_first_split colon c.args.text.now is.family_text c.in-Some.family.now is.after_colon c.in-Some.rest.now is.colon_is
    c.in-Some.ensures.some in
    let last = one_last_split slash c.in-Some.rest.now is.address_text c.in-Some-split_last.address.now is.size_text c.in-Some-split_last.size.now
    (subst (λ t. SplitsLast slash t is.address_text is.size_text) first.1 is.slash_is) c.in-Some-split_last.ensures.some in
    let family = one_number 16 is.family c.in-Some-number_of.family c.in-Some.family.now (subst (λ t. IsNumber 16 t is.family) first.0 is.family_is)
    c.in-Some-number_of.ensures.some in
    c.in_default-spell_address.ensures.none is.address
    (subst (λ n. FamilyAddress n c.in-Some-split_last.address.now is.address) family (subst (λ t. FamilyAddress is.family t is.address) last.0 is.address_is))

pub returns-then-from-as_slice-clause-none : goal.returns-then-from-as_slice-clause-none
returns-then-from-as_slice-clause-none c = λ octets is.
    let first = one_first_split colon c.args.text.now is.family_text c.in-Some.family.now is.after_colon c.in-Some.rest.now is.colon_is
    c.in-Some.ensures.some in
    let last = one_last_split slash c.in-Some.rest.now is.address_text c.in-Some-split_last.address.now is.size_text c.in-Some-split_last.size.now
    (subst (λ t. SplitsLast slash t is.address_text is.size_text) first.1 is.slash_is) c.in-Some-split_last.ensures.some in
    let family = one_number 16 is.family c.in-Some-number_of.family c.in-Some.family.now (subst (λ t. IsNumber 16 t is.family) first.0 is.family_is)
    c.in-Some-number_of.ensures.some in
    let address : FamilyAddress c.in-Some-number_of.family c.in-Some-split_last.address.now is.address =
    subst (λ n. FamilyAddress n c.in-Some-split_last.address.now is.address) family
    (subst (λ t. FamilyAddress is.family t is.address) last.0 is.address_is) in
    let long = same_size c.in-Some-number_of.family c.in-Some-split_last.address.now is.address c.in-Some-spell_address.octets address
    c.in-Some-spell_address.ensures.some in
    let size = one_number 8 is.size c.in-Some-small_number.size c.in-Some-split_last.size.now (subst (λ t. IsNumber 8 t is.size) last.1 is.size_is)
    c.in-Some-small_number.ensures.some in
    let inside : c.in-Some-small_number.size ≤ 8 * length c.in-Some-spell_address.octets = omega (arith, size, long, is.inside) in
    grind (arith, common_steps, nat_tests, inside)
