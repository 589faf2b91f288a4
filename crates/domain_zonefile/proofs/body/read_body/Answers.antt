use Rattle.std.proofs.Common.{rules, arith, length, map, ◌≡◌, ◌+◌}
use Rattle.domain_types.specs.Reading.{token_text}
use Rattle.domain_types.proofs.ReadLemmas.{tokens_left}
use Rattle.domain_zonefile.proofs.LineLemmas.{appended_length, body_is, body_fault, body_long}
use Rattle.domain_zonefile.proofs.body.read_body.Goals as goal

pub returns-in-Err-read_data-clause-err : goal.returns-in-Err-read_data-clause-err
returns-in-Err-read_data-clause-err c =
    let left = tokens_left c.args.tokens.now (c.in-Ok.typed.0.count + 1) in
    rw c.fault.ensures (body_fault _ (map token_text c.args.tokens.now) _ _ _ _ _ c.in-Ok.ensures.ok left c.in-Err-read_data.ensures.err)

pub returns-then-len-start-gt-MAX_DATA-clause-err : goal.returns-then-len-start-gt-MAX_DATA-clause-err
returns-then-len-start-gt-MAX_DATA-clause-err c =
    let read = c.in_default.ensures.ok in
    let left = tokens_left c.args.tokens.now (c.in-Ok.typed.0.count + 1) in
    let start : c.len-start.result ≡ length c.args.data.now.items = search rules in
    let count : c.len.result ≡ length c.read_data.new.out.items = search rules in
    let len = appended_length c.args.data.now.items read.0 _ _ _ read.2 start count in
    rw c.fault-then-len-start-gt-MAX_DATA.ensures
    (body_long _ (map token_text c.args.tokens.now) _ _ _ read.0 c.in-Ok.ensures.ok left read.1 (omega (arith, len, c.if-len-start-gt-MAX_DATA.true)))

pub returns-clause-ok : goal.returns-clause-ok
returns-clause-ok c =
    let read = c.in_default.ensures.ok in
    let left = tokens_left c.args.tokens.now (c.in-Ok.typed.0.count + 1) in
    let start : c.len-start.result ≡ length c.args.data.now.items = search rules in
    let count : c.len.result ≡ length c.read_data.new.out.items = search rules in
    let len = appended_length c.args.data.now.items read.0 _ _ _ read.2 start count in (
      read.0,
      body_is _ (map token_text c.args.tokens.now) _ _ _ read.0 c.in-Ok.ensures.ok left read.1 (omega (arith, len, c.if-len-start-gt-MAX_DATA.false)),
      read.2,
    )
