use Rattle.std.proofs.Common.{rules, length, ◌≡◌, map, sym, ap, ◌∙◌}
use Rattle.domain_types.specs.Reading.{token_text}
use Rattle.domain_zonefile.specs.Records.{ttl_of}
use Rattle.domain_zonefile.proofs.LineLemmas.{appended, fields_body, no_ttl}
use Rattle.domain_zonefile.proofs.state.ZoneState.read_fields.Goals as goal

pub returns-in-Err-clause-err : goal.returns-in-Err-clause-err
returns-in-Err-clause-err c = fields_body c.args.self.now (map token_text c.args.tokens.now) _ _ (rw c.origin.ensures at c.in-Err.ensures.err)

pub returns-in-None-clause-err : goal.returns-in-None-clause-err
returns-in-None-clause-err c =
    let read = rw c.origin.ensures at c.in-Ok.ensures.ok in
    let start : c.len-start.result ≡ length c.args.data.now.items = search rules in
    let part = appended c.args.data.now.items read.0 _ c.len-start.result read.2 start in
    rw c.fault.ensures
    (no_ttl c.args.self.now (map token_text c.args.tokens.now) c.in-Ok.body read.0 read.1
    (ap (ttl_of c.args.self.now c.in-Ok.body.ttl c.in-Ok.body.rtype) (sym part) ∙ sym (rw c.deref.ensures.value at c.in-None.ensures)))
