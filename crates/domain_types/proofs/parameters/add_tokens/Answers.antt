use Rattle.std.proofs.Common.{map, length, get_or, subst, sym, ◌<◌, ◌≤◌, arith}
use Rattle.std.proofs.lemmas.List.{length-map}
use Rattle.domain_svcb.specs.Gathered.{gathered}
use Rattle.domain_types.specs.Reading.{token_text}
use Rattle.domain_types.proofs.ReadLemmas.{first_token, token_at, many_at}
use Rattle.domain_types.proofs.ParametersLemmas.{adding_begins, adding_next, adding_fault, adding_ends, adding_end_fault}
use Rattle.domain_types.proofs.parameters.add_tokens.Goals as goal

pub loop-place-init : goal.loop-place-init
loop-place-init c = adding_begins (map token_text c.args.tokens.now) (gathered c.args.parameters.now) c.requires

pub returns-in-Err-clause-err : goal.returns-in-Err-clause-err
returns-in-Err-clause-err c =
    let tokens = map token_text c.args.tokens.now in
    let place = c.loop-place.place in
    let token = get_or c.args.tokens.now place first_token in
    let below : place < length tokens = subst (λ n. place < n) (sym (length-map c.args.tokens.now token_text)) c.loop-place-test.true in
    let rest = many_at tokens place (token_text token) below (token_at c.args.tokens.now place first_token c.loop-place-test.true) in
    adding_fault tokens place (token_text token) (gathered c.loop-place.parameters) c.in-Err.kind rest c.loop-place.invariant c.in-Err.ensures.err

pub loop-place-preserved : goal.loop-place-preserved
loop-place-preserved c =
    let tokens = map token_text c.args.tokens.now in
    let place = c.loop-place.place in
    let token = get_or c.args.tokens.now place first_token in
    let below : place < length tokens = subst (λ n. place < n) (sym (length-map c.args.tokens.now token_text)) c.loop-place-test.true in
    let rest = many_at tokens place (token_text token) below (token_at c.args.tokens.now place first_token c.loop-place-test.true) in
    adding_next tokens place (token_text token) (gathered c.loop-place.parameters) (gathered c.add_token.new.parameters) below rest
    c.loop-place.invariant c.in_default.ensures.ok

pub returns-clause-unquoted : goal.returns-clause-unquoted
returns-clause-unquoted c =
    let tokens = map token_text c.args.tokens.now in
    let over : length tokens ≤ c.loop-place.place = subst (λ n. n ≤ c.loop-place.place) (sym
    (length-map c.args.tokens.now token_text)) c.loop-place-test.false in
    (adding_ends tokens c.loop-place.place (gathered c.loop-place.parameters) over c.loop-place.invariant).0

pub returns-clause-gathered : goal.returns-clause-gathered
returns-clause-gathered c =
    let tokens = map token_text c.args.tokens.now in
    let over : length tokens ≤ c.loop-place.place = subst (λ n. n ≤ c.loop-place.place) (sym
    (length-map c.args.tokens.now token_text)) c.loop-place-test.false in
    (adding_ends tokens c.loop-place.place (gathered c.loop-place.parameters) over c.loop-place.invariant).1

pub returns-clause-end : goal.returns-clause-end
returns-clause-end c =
    let tokens = map token_text c.args.tokens.now in
    let size = length-map c.args.tokens.now token_text in
    let over : length tokens ≤ c.loop-place.place = subst (λ n. n ≤ c.loop-place.place) (sym size) c.loop-place-test.false in
    λ kind. adding_end_fault tokens c.loop-place.place (length c.args.tokens.now) (gathered c.loop-place.parameters) kind over (omega arith)
    c.loop-place.invariant
