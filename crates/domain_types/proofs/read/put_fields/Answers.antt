use Rattle.std.proofs.Common.{map, length, get_or, subst, sym, ◌<◌, ◌≤◌, refl, arith}
use Rattle.std.proofs.lemmas.List.{length-map}
use Rattle.domain_types.specs.Reading.{token_text}
use Rattle.domain_types.specs.declared.field.Field.TheVariants.{Number8}
use Rattle.domain_types.proofs.ReadLemmas.{first_token, token_at, layout_next, layout_fault, layout_missing}
use Rattle.domain_types.proofs.read.put_fields.Goals as goal

pub returns-then-place-tokens-clause-err : goal.returns-then-place-tokens-clause-err
returns-then-place-tokens-clause-err c = λ tail.
    let tokens = map token_text c.args.tokens.now in
    let over : length tokens ≤ c.loop-place.place = subst (λ n. n ≤ c.loop-place.place) (sym
    (length-map c.args.tokens.now token_text)) c.if-place-tokens.true in
    layout_missing c.args.origin.now c.args.fields.now tokens c.loop-place.place Number8 c.args.out.now.items c.loop-place.out.items tail
    c.loop-place-test.true over c.loop-place.invariant.0

pub returns-in-Err-clause-err : goal.returns-in-Err-clause-err
returns-in-Err-clause-err c = λ tail.
    let fields = c.args.fields.now in
    let tokens = map token_text c.args.tokens.now in
    let place = c.loop-place.place in
    let token = get_or c.args.tokens.now place first_token in
    let below : place < length tokens = subst (λ n. place < n) (sym (length-map c.args.tokens.now token_text)) (omega arith) in
    layout_fault c.args.origin.now fields tokens place (get_or fields place Number8) Number8 (token_text token) c.args.out.now.items c.loop-place.out.items
    c.in-Err.kind tail c.loop-place-test.true refl below (token_at c.args.tokens.now place first_token
    (omega arith)) c.loop-place.invariant.0 c.in-Err.ensures.err

pub loop-place-preserved : goal.loop-place-preserved
loop-place-preserved c =
    let fields = c.args.fields.now in
    let tokens = map token_text c.args.tokens.now in
    let place = c.loop-place.place in
    let token = get_or c.args.tokens.now place first_token in
    let below : place < length tokens = subst (λ n. place < n) (sym (length-map c.args.tokens.now token_text)) (omega arith) in
    let ok = c.in_default.ensures.ok in
    let next = layout_next c.args.origin.now fields tokens place (get_or fields place Number8) Number8 (token_text token) ok.0 c.args.out.now.items
    c.loop-place.out.items c.put_field.new.out.items c.loop-place-test.true refl below (token_at c.args.tokens.now place first_token (omega arith))
    c.loop-place.invariant.0 ok.1 ok.2 in
    (next, omega arith)
