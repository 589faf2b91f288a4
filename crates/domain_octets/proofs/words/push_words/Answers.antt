use Rattle.std.proofs.{Common.{◌+◌, take, drop, arith}, lemmas.Grind.common_steps}
use Rattle.domain_octets.{specs.Text.{word_if_any, words_of}, proofs.WordLemmas.{blank_parts, room_for}}
use Rattle.domain_octets.proofs.words.push_words.Goals as goal

pub returns-in_err-push_word-clause-room : goal.returns-in_err-push_word-clause-room
returns-in_err-push_word-clause-room c = λ room.
    let first = word_if_any (take c.in-Some.end c.loop-end.rest.now) in
    let behind = words_of (drop (c.in-Some.end + 1) c.loop-end.rest.now) in
    let parts = blank_parts _ _ (rw c.as_bytes.ensures.value at c.in-Some.ensures) in
    let free = room_for c.args.words.now c.loop-end.words _ _ first behind c.loop-end.invariant.left parts c.loop-end.invariant.grown room in
    grind (arith, common_steps)
