use Rattle.std.proofs.Common.{subst, ℕ, List, [], ◌∷◌, ◌≡◌, true, false, Some, get_or}
use Rattle.domain_svcb.proofs.IdLemmas.{ids_next, ids_refused, ids_end, ids_open, ids_no_last, TakesIds}
use Rattle.domain_svcb.proofs.FaultLemmas.{nothing_from}
use Rattle.domain_svcb.specs.{Strings.SpellsNothing, Values.{counted_id, ids_from}}
use Rattle.domain_svcb.proofs.ids.put_ids.Goals as goal

pub loop-octet-preserved : goal.loop-octet-preserved
loop-octet-preserved c =
    ids_next c.args.string.now c.loop-octet.octet-index c.loop-octet.id.items c.take_octet.new.id.items c.loop-octet.taken c.in-Ok.next
    c.args.out.now.items c.loop-octet.out.items c.take_octet.new.out.items c.loop-octet-test.true c.loop-octet.invariant c.in-Ok.ensures.ok

pub returns-in-Err-clause-err : goal.returns-in-Err-clause-err
returns-in-Err-clause-err c =
    let string = c.args.string.now in
    let octet = get_or string c.loop-octet.octet-index 0 in
    nothing_from (λ (ids : List ℕ). (rest : List ℕ) × (ids_from c.loop-octet.id.items c.loop-octet.taken (octet ∷ rest) ≡ Some ids))
    (λ (ids : List ℕ). ids_from [] false string ≡ Some ids) c.in-Err.fault
    (ids_refused string c.loop-octet.octet-index c.loop-octet.id.items c.loop-octet.taken c.args.out.now.items c.loop-octet.out.items
    c.loop-octet-test.true c.loop-octet.invariant) c.in-Err.ensures.err

pub returns-then-taken-clause-err : goal.returns-then-taken-clause-err
returns-then-taken-clause-err c =
    let string = c.args.string.now in
    let i = c.loop-octet.octet-index in
    let so = subst (λ taken. TakesIds string i c.loop-octet.id.items taken c.args.out.now.items c.loop-octet.out.items) c.if-taken.true
    c.loop-octet.invariant in
    ids_open string i c.loop-octet.id.items c.args.out.now.items c.loop-octet.out.items c.loop-octet-test.false so

pub returns-in-Ok-put_id-clause-ok : goal.returns-in-Ok-put_id-clause-ok
returns-in-Ok-put_id-clause-ok c =
    let string = c.args.string.now in
    let i = c.loop-octet.octet-index in
    let so = subst (λ taken. TakesIds string i c.loop-octet.id.items taken c.args.out.now.items c.loop-octet.out.items) c.if-taken.false
    c.loop-octet.invariant in
    let ok = c.in-Ok-put_id.ensures.ok in
    let counted : counted_id c.loop-octet.id.items ≡ Some ok.0 = cc (ok.1, c.as_slice.ensures.value) in
    ids_end string i c.loop-octet.id.items c.args.out.now.items c.loop-octet.out.items c.put_id.new.out.items ok.0 c.loop-octet-test.false so counted ok.2

pub returns-clause-err : goal.returns-clause-err
returns-clause-err c =
    let string = c.args.string.now in
    let i = c.loop-octet.octet-index in
    let id = c.loop-octet.id.items in
    let so = subst (λ taken. TakesIds string i id taken c.args.out.now.items c.loop-octet.out.items) c.if-taken.false c.loop-octet.invariant in
    nothing_from (λ (part : List ℕ). counted_id id ≡ Some part) (λ (ids : List ℕ). ids_from [] false string ≡ Some ids) c.in-Err-put_id.fault
    (ids_no_last string i id c.args.out.now.items c.loop-octet.out.items c.loop-octet-test.false so)
    (subst (λ l. SpellsNothing (λ (part : List ℕ). counted_id l ≡ Some part) c.in-Err-put_id.fault) c.as_slice.ensures.value c.in-Err-put_id.ensures.err)
