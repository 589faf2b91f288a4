use Rattle.std.proofs.Common.{◌≤◌, ℕ, arith, length, List}
use Rattle.std.specs.Net.Grammar.{IsDotted}
use Rattle.domain_types.specs.Addresses.{LongAddressText}
use Rattle.domain_types.specs.Prefixes.{FamilyAddress, family_ipv4, family_ipv6}
use Rattle.domain_types.proofs.PrefixLemmas.{some_map, none_map, not_ipv4, not_ipv6, long_size}
use Rattle.domain_types.proofs.prefix.spell_address.Goals as goal

pub returns-in-1-clause-some : goal.returns-in-1-clause-some
returns-in-1-clause-some c =
    let text = c.args.text.now in
    some_map (IsDotted text) (FamilyAddress c.args.family text) c.spell_ipv4.result (λ octets is. family_ipv4 c.args.family text octets c.in-1.is is)
    c.spell_ipv4.ensures.some

pub returns-in-1-clause-none : goal.returns-in-1-clause-none
returns-in-1-clause-none c =
    let text = c.args.text.now in
    none_map ((octets : List ℕ) → IsDotted text octets → ⊥) ((octets : List ℕ) → FamilyAddress c.args.family text octets → ⊥) c.spell_ipv4.result
    (λ none octets is. not_ipv4 c.args.family text octets c.in-1.is none is) c.spell_ipv4.ensures.none

pub returns-in-2-clause-some : goal.returns-in-2-clause-some
returns-in-2-clause-some c =
    let text = c.args.text.now in
    some_map (LongAddressText text) (FamilyAddress c.args.family text) c.spell_ipv6.result
    (λ octets is. family_ipv6 c.args.family text octets c.in-2.is is) c.spell_ipv6.ensures.some

pub returns-in-2-clause-none : goal.returns-in-2-clause-none
returns-in-2-clause-none c =
    let text = c.args.text.now in
    none_map ((octets : List ℕ) → LongAddressText text octets → ⊥) ((octets : List ℕ) → FamilyAddress c.args.family text octets → ⊥) c.spell_ipv6.result
    (λ none octets is. not_ipv6 c.args.family text octets c.in-2.is none is) c.spell_ipv6.ensures.none

pub returns-in-2-clause-short : goal.returns-in-2-clause-short
returns-in-2-clause-short c =
    some_map (LongAddressText c.args.text.now) (λ octets. length octets ≤ 16) c.spell_ipv6.result
    (λ octets is. omega (arith, long_size c.args.text.now octets is)) c.spell_ipv6.ensures.some
