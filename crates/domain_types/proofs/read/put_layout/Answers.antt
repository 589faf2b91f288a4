use Rattle.std.proofs.Common.{map, length}
use Rattle.domain_types.specs.Reading.{token_text}
use Rattle.domain_types.proofs.ReadLemmas.{tokens_left, layout_read, layout_refused}
use Rattle.domain_types.proofs.read.put_layout.Goals as goal

pub returns-in-Ok-clause-ok : goal.returns-in-Ok-clause-ok
returns-in-Ok-clause-ok c =
    let row = c.args.row.now in
    layout_read c.args.origin.now row.2.now row.3 (map token_text c.args.tokens.now) _ c.args.out.now.items c.put_fields.new.out.items
    c.put_tail.new.out.items c.in-Ok.ensures.ok.0 c.in_default.ensures.ok (tokens_left c.args.tokens.now (length row.2.now)) c.in-Ok.ensures.ok.1
    c.in-Ok.ensures.ok.2

pub returns-in-Err-put_tail-clause-err : goal.returns-in-Err-put_tail-clause-err
returns-in-Err-put_tail-clause-err c =
    let row = c.args.row.now in
    layout_refused c.args.origin.now row.2.now row.3 (map token_text c.args.tokens.now) _ c.args.out.now.items c.put_fields.new.out.items
    c.in-Err-put_tail.fault.token c.in-Err-put_tail.fault.kind c.in_default.ensures.ok (tokens_left c.args.tokens.now (length row.2.now))
    c.in-Err-put_tail.ensures.err
