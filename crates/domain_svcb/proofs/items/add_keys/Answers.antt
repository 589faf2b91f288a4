use Rattle.std.proofs.Common.{List, []}
use Rattle.domain_svcb.specs.{Values.{Parameter, AddsKey, KeyItems, comma_items}, Gathered.gathered}
use Rattle.domain_svcb.proofs.{FaultLemmas.nothing_from, ItemLemmas.{keys_begin, keys_next, keys_refused, last_key_refused}}
use Rattle.domain_svcb.proofs.items.add_keys.Goals as goal

pub items-init : goal.items-init
items-init c = keys_begin c.args.text.now (gathered c.args.keys.now) c.requires

pub items-preserved : goal.items-preserved
items-preserved c =
    keys_next c.args.text.now c.items.rest.now c.in-Some.item.now c.in-Some.after.now (gathered c.items.keys) (gathered c.add_key.new.keys)
    c.items.invariant c.in-Some.ensures.some c.in_default-add_key.ensures.ok

pub returns-in-Err-clause-err : goal.returns-in-Err-clause-err
returns-in-Err-clause-err c =
    nothing_from (AddsKey c.in-Some.item.now (gathered c.items.keys)) (KeyItems [] (comma_items c.args.text.now)) c.in-Err.fault
    (keys_refused c.args.text.now c.items.rest.now c.in-Some.item.now c.in-Some.after.now (gathered c.items.keys) c.items.invariant
    c.in-Some.ensures.some) c.in-Err.ensures.err

pub returns-in-Err-add_key-clause-err : goal.returns-in-Err-add_key-clause-err
returns-in-Err-add_key-clause-err c =
    nothing_from (AddsKey c.items.rest.now (gathered c.items.keys)) (KeyItems [] (comma_items c.args.text.now)) c.in-Err-add_key.fault
    (last_key_refused c.args.text.now c.items.rest.now (gathered c.items.keys) c.items.invariant c.in_default.ensures.none) c.in-Err-add_key.ensures.err
