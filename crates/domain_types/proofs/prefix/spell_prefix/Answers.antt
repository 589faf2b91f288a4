use Rattle.std.proofs.Common.{ℕ, List}
use Rattle.domain_types.specs.Prefixes.{ItemText, PrefixText, plain_prefix, negated_prefix}
use Rattle.domain_types.proofs.PrefixLemmas.{some_map, none_map, negated_item, plain_item}
use Rattle.domain_types.proofs.prefix.spell_prefix.Goals as goal

pub returns-in-Some-clause-some : goal.returns-in-Some-clause-some
returns-in-Some-clause-some c =
    let text = c.args.text.now in
    let item = c.in-Some.item.now in
    some_map (ItemText 1 item) (PrefixText text) c.spell_item.result (λ octets is. negated_prefix text item octets c.in-Some.ensures.some is)
    c.spell_item.ensures.some

pub returns-in-Some-clause-none : goal.returns-in-Some-clause-none
returns-in-Some-clause-none c =
    let text = c.args.text.now in
    let item = c.in-Some.item.now in
    none_map ((octets : List ℕ) → ItemText 1 item octets → ⊥) ((octets : List ℕ) → PrefixText text octets → ⊥) c.spell_item.result
    (λ none octets is. negated_item text item octets c.in-Some.ensures.some is none) c.spell_item.ensures.none

pub returns-in-None-clause-some : goal.returns-in-None-clause-some
returns-in-None-clause-some c =
    let text = c.args.text.now in
    some_map (ItemText 0 text) (PrefixText text) c.spell_item-in-None.result (λ octets is. plain_prefix text octets is) c.spell_item-in-None.ensures.some

pub returns-in-None-clause-none : goal.returns-in-None-clause-none
returns-in-None-clause-none c =
    let text = c.args.text.now in
    none_map ((octets : List ℕ) → ItemText 0 text octets → ⊥) ((octets : List ℕ) → PrefixText text octets → ⊥) c.spell_item-in-None.result
    (λ none octets is. plain_item text octets c.in-None.ensures.none is none) c.spell_item-in-None.ensures.none
