use Rattle.std.proofs.Common.{map, length, get_or, subst, sym, ◌<◌, ◌≤◌, arith}
use Rattle.std.proofs.lemmas.List.{length-map}
use Rattle.domain_types.specs.Reading.{token_text}
use Rattle.domain_types.specs.declared.token.DataFaultKind.TheVariants.{OutOfMemory}
use Rattle.domain_types.proofs.ReadLemmas.{first_token, token_at}
use Rattle.domain_types.proofs.TypeSetLemmas.{added_begins, added_next, added_fault, added_ends, added_memory}
use Rattle.domain_types.proofs.bitmap.add_types.Goals as goal

pub loop-place-init : goal.loop-place-init
loop-place-init c = added_begins (map token_text c.args.tokens.now) c.args.builder.now c.requires

pub returns-in-Err-clause-err : goal.returns-in-Err-clause-err
returns-in-Err-clause-err c =
    let tokens = map token_text c.args.tokens.now in
    let place = c.loop-place.place in
    let token = get_or c.args.tokens.now place first_token in
    let below : place < length tokens = subst (λ n. place < n) (sym (length-map c.args.tokens.now token_text)) c.loop-place-test.true in
    added_fault tokens place (token_text token) c.loop-place.builder c.in-Err.kind below
    (token_at c.args.tokens.now place first_token c.loop-place-test.true) c.loop-place.invariant c.in-Err.ensures.err

pub returns-in-Err-add-clause-err : goal.returns-in-Err-add-clause-err
returns-in-Err-add-clause-err c =
    let tokens = map token_text c.args.tokens.now in
    let place = c.loop-place.place in
    let token = get_or c.args.tokens.now place first_token in
    let below : place < length tokens = subst (λ n. place < n) (sym (length-map c.args.tokens.now token_text)) c.loop-place-test.true in
    added_fault tokens place (token_text token) c.loop-place.builder OutOfMemory below
    (token_at c.args.tokens.now place first_token c.loop-place-test.true) c.loop-place.invariant tt

pub loop-place-preserved : goal.loop-place-preserved
loop-place-preserved c =
    let tokens = map token_text c.args.tokens.now in
    let place = c.loop-place.place in
    let token = get_or c.args.tokens.now place first_token in
    let below : place < length tokens = subst (λ n. place < n) (sym (length-map c.args.tokens.now token_text)) c.loop-place-test.true in
    added_next tokens place (token_text token) c.in-Ok.rtype c.loop-place.builder c.add.new.self below
    (token_at c.args.tokens.now place first_token c.loop-place-test.true) c.loop-place.invariant c.in-Ok.ensures.ok c.in_default.ensures.ok

pub returns-clause-ok : goal.returns-clause-ok
returns-clause-ok c =
    let tokens = map token_text c.args.tokens.now in
    let over : length tokens ≤ c.loop-place.place = subst (λ n. n ≤ c.loop-place.place) (sym
    (length-map c.args.tokens.now token_text)) c.loop-place-test.false in
    added_ends tokens c.loop-place.place c.loop-place.builder over c.loop-place.invariant

pub returns-clause-memory : goal.returns-clause-memory
returns-clause-memory c =
    let tokens = map token_text c.args.tokens.now in
    let size = length-map c.args.tokens.now token_text in
    let over : length tokens ≤ c.loop-place.place = subst (λ n. n ≤ c.loop-place.place) (sym size) c.loop-place-test.false in
    added_memory tokens c.loop-place.place (length c.args.tokens.now) c.loop-place.builder over (omega arith) c.loop-place.invariant
