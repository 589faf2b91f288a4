use Rattle.std.proofs.Common.{map}
use Rattle.domain_types.specs.Reading.{token_text}
use Rattle.domain_zonefile.proofs.LineLemmas.{record_is, fields_refused}
use Rattle.domain_zonefile.proofs.state.ZoneState.read_record.Goals as goal

pub returns-in-Ok-read_fields-clause-ok : goal.returns-in-Ok-read_fields-clause-ok
returns-in-Ok-read_fields-clause-ok c =
    rw (c.note.ensures.fields, c.note.ensures.after)
    (record_is c.args.self.now c.args.is_indented (map token_text c.args.tokens.now) _ c.in-Ok.own c.in-Ok-read_fields.body c.in-Ok-read_fields.ttl _ _
    c.in-Ok.ensures.ok c.after_owner.ensures c.in-Ok-read_fields.ensures.ok)

pub returns-in-Err-read_fields-clause-err : goal.returns-in-Err-read_fields-clause-err
returns-in-Err-read_fields-clause-err c =
    rw (c.fault-in-Err-read_fields.ensures, c.owner_count.ensures)
    (fields_refused c.args.self.now c.args.is_indented (map token_text c.args.tokens.now) _ c.in-Ok.own _ _ c.in-Ok.ensures.ok c.after_owner.ensures
    c.in-Err-read_fields.ensures.err)
