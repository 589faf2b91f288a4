use Rattle.std.proofs.Common.{◌∙◌, sym}
use Rattle.domain_includes.proofs.ValuesLemmas.{line_refused}
use Rattle.domain_includes.proofs.generated.pass_line.Goals as goal

pub returns-clause-err : goal.returns-clause-err
returns-clause-err g c =
    let entry = c.in-Ok-Some-Entry in
    let found = rw (entry.field-0-is, entry.field-0-0-is) at entry.ensures.found in
    let refused = rw c.tokens.ensures at c.in-Err-read_record.ensures.err in
    line_refused c.args.state.now c.args.line.now c.args.place c.in-Err-read_record.fault.kind entry.is_indented c.next_entry.new.self.tokens
    c.next_entry.new.self.left c.in-Err-read_record.fault.token c.fault_of_line.result (sym c.new-reader.ensures.left ∙ found) refused
    c.fault_of_line.ensures
