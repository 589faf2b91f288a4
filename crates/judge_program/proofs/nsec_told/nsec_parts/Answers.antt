use Rattle.std.proofs.Common.{None, Some, sym, ◌∙◌}
use Rattle.judge_program.proofs.RunLemmas.{found_told, shown_low, wildcard_told}
use Rattle.judge_program.specs.declared.role.Role.TheVariants.{Asked}
use Rattle.domain_answer.specs.Reading.{usable}
use Rattle.judge_program.proofs.nsec_told.nsec_parts.Goals as goal

pub returns : goal.returns
returns c = λ listed judged witnesses.
    let shown = sym c.shows_records.ensures ∙ c.if-not-shows_records.false in
    let apex = c.args.question.now.apex in
    let counted = usable apex listed in
    let name = c.args.question.now.name in
    let rtype = c.args.question.now.rtype in
    let matched = c.part_of.ensures
    ∙ found_told apex counted Asked name _ _ (witnesses.name (shown_low apex listed name rtype c.args.judged.answer judged shown)) in
    let wildcard = c.wildcard_part.ensures ∙ wildcard_told apex listed name rtype c.args.judged.answer _ judged witnesses.wildcard in
    rw shown (λ i. Some (record { matched = matched i; closer = None; wildcard = wildcard i; param = None }))
