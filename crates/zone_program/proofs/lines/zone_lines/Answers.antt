use Rattle.zone_program.proofs.SinkLemmas.{lines_made}
use Rattle.zone_program.proofs.lines.zone_lines.Goals as goal

pub returns-in-Ok-clause-ok : goal.returns-in-Ok-clause-ok
returns-in-Ok-clause-ok g c =
    lines_made _ _ _ _ c.args.is_unsigned c.new-sink.result c.read_files.new.sink c.into_lines.result c.in-Ok.ensures.ok c.new-sink.ensures.unsigned
    c.new-sink.ensures.text c.new-sink.ensures.places c.into_lines.ensures
