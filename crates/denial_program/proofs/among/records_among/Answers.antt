use Rattle.std.proofs.{Common.{◌+◌, ap, arith, drop, map, sym, ◌∙◌, subst}, lemmas.List.{drop_all, map-append}}
use Rattle.denial_program.{specs.Check.IsOf, proofs.RunLemmas.{cloned, goes_end, goes_kept, next_left, Goes}}
use Rattle.denial_program.proofs.among.records_among.Goals as goal

pub loop-record-preserved : goal.loop-record-preserved
loop-record-preserved g c =
    let k = g.K.ReadAs in
    let i = c.loop-record.record-index in
    let all = c.args.records.now in
    let kept = c.loop-record.kept.items in
    let Is = IsOf (k.counts c.args.apex.now) k.raw k.IsFit in
    let some = c.in-Some.ensures.some in
    let same = cloned c.record-item.result c.in_ok-clone.field-0 c.in_ok-clone.ensures in
    subst (λ said. Goes Is all (drop (i + 1) all) said) (sym (ap (map k.said) c.in_ok-push.ensures.items ∙ map-append k.said kept _))
    (goes_kept Is all _ _ (map k.said kept) c.in_ok-clone.field-0 (k.said c.in-Some.read) c.loop-record.invariant
    (next_left all i c.record-item.result _ (omega arith) c.record-item.is c.in_ok-clone.ensures)
    (record { counted = ap (k.counts c.args.apex.now) (sym same) ∙ sym c.counts.ensures ∙ c.if-not-counts.false; is = some.0; fits = some.1 }))

pub returns : goal.returns
returns g c =
    let i = c.loop-record.record-index in
    let kept = map g.K.ReadAs.said c.loop-record.kept.items in
    goes_end _ _ (drop i c.args.records.now) kept c.loop-record.invariant (drop_all i _ (omega arith))
