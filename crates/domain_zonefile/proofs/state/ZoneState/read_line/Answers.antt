use Rattle.std.proofs.Common.{sym}
use Rattle.domain_zonefile.specs.Lines.{in_record}
use Rattle.domain_zonefile.proofs.state.ZoneState.read_line.Goals as goal

pub returns-in-Err-clause-err : goal.returns-in-Err-clause-err
returns-in-Err-clause-err c = in_record (sym c.if-is_directive.ensures) c.in-Err.ensures.err
