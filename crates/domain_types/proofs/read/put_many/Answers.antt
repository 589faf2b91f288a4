use Rattle.std.proofs.Common.{map, length, get_or, subst, sym, ◌<◌, ◌≤◌}
use Rattle.std.proofs.lemmas.List.{length-map}
use Rattle.domain_types.specs.Reading.{token_text}
use Rattle.domain_types.proofs.ReadLemmas.{first_token, token_at, many_next, many_fault, many_ends}
use Rattle.domain_types.proofs.read.put_many.Goals as goal

pub returns-in-Err-clause-err : goal.returns-in-Err-clause-err
returns-in-Err-clause-err c =
    let tokens = map token_text c.args.tokens.now in
    let place = c.loop-place.place in
    let token = get_or c.args.tokens.now place first_token in
    let below : place < length tokens = subst (λ n. place < n) (sym (length-map c.args.tokens.now token_text)) c.loop-place-test.true in
    many_fault c.args.origin.now c.args.field tokens place (token_text token) c.args.out.now.items c.loop-place.out.items c.in-Err.kind below
    (token_at c.args.tokens.now place first_token c.loop-place-test.true) c.loop-place.invariant c.in-Err.ensures.err

pub loop-place-preserved : goal.loop-place-preserved
loop-place-preserved c =
    let tokens = map token_text c.args.tokens.now in
    let place = c.loop-place.place in
    let token = get_or c.args.tokens.now place first_token in
    let below : place < length tokens = subst (λ n. place < n) (sym (length-map c.args.tokens.now token_text)) c.loop-place-test.true in
    let ok = c.in_default.ensures.ok in
    many_next c.args.origin.now c.args.field tokens place (token_text token) ok.0 c.args.out.now.items c.loop-place.out.items c.put_field.new.out.items below
    (token_at c.args.tokens.now place first_token c.loop-place-test.true) c.loop-place.invariant ok.1 ok.2

pub returns-clause-ok : goal.returns-clause-ok
returns-clause-ok c =
    let tokens = map token_text c.args.tokens.now in
    let so = c.loop-place.invariant in
    let over : length tokens ≤ c.loop-place.place = subst (λ n. n ≤ c.loop-place.place) (sym
    (length-map c.args.tokens.now token_text)) c.loop-place-test.false in
    (so.part, many_ends c.args.origin.now c.args.field tokens c.loop-place.place c.args.out.now.items c.loop-place.out.items over so, so.appended)
