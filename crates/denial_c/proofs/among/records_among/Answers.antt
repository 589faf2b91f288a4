use Rattle.std.{proofs.{Common.{◌&&◌, ap, map, subst, sym, ◌∙◌}, lemmas.List.map-append}, specs.Prelude.◌==◌}
use Rattle.denial_c.proofs.AmongLemmas.{passed, refused, refused_data, taken, IsRead}
use Rattle.denial_c.proofs.among.records_among.Goals as goal

pub returns-in_default-clause-err : goal.returns-in_default-clause-err
returns-in_default-clause-err g c = λ kept are. refused _ _ _ _ _ _ kept c.records.invariant are c.in_default.ensures.none

pub returns-in_default-read-clause-err : goal.returns-in_default-read-clause-err
returns-in_default-read-clause-err g c = λ kept are.
    refused_data _ _ _ _ _ _ kept c.records.invariant are _ c.in-Some.borrowed c.in-Some.ensures.some.0 c.in-Some.ensures.some.1
    (sym c.is_kept.ensures ∙ c.if-is_kept.true) c.in_default-read.ensures.none

pub records-preserved-in-Ok-1 : goal.records-preserved-in-Ok-1
records-preserved-in-Ok-1 g c =
    let k = g.K.ReadAs in
    subst (IsRead (λ r. k.counts c.args.apex.now r && (r.class == c.args.class)) k.raw k.IsFit c.args.octets.now c.next_record.new.parser.left)
    (sym (ap (map k.said) c.in-Ok.ensures.items ∙ map-append k.said c.records.kept.items _))
    (taken _ _ _ _ _ _ _ c.in-Some.borrowed _ c.records.invariant c.in-Some.ensures.some.0 c.in-Some.ensures.some.1
    (sym c.is_kept.ensures ∙ c.if-is_kept.true) c.in-Some-read.ensures.some.0 c.in-Some-read.ensures.some.1)

pub records-preserved : goal.records-preserved
records-preserved g c =
    passed _ _ _ _ _ _ _ c.in-Some.borrowed c.records.invariant c.in-Some.ensures.some.0 c.in-Some.ensures.some.1
    (sym c.is_kept.ensures ∙ c.if-is_kept.false)
