use Rattle.std.proofs.Common.{◌∙◌, ◌+◌, ◌≡◌, arith, length, refl, sym, slice_index}
use Rattle.std.proofs.lemmas.List.{take-set-le, length-set, length-map, take_all}
use Rattle.sha1.specs.Sha1.{schedule}
use Rattle.domain_sha1.specs.Lanes.{lane}
use Rattle.domain_sha1.proofs.RoundLemmas.{schedule_more}
use Rattle.domain_sha1.proofs.rounds.extend.Goals as goal

pub words-init : goal.words-init
unfolding schedule
words-init c = (c.told-w, refl, λ j b in_four words. words)

pub words-preserved : goal.words-preserved
words-preserved c =
    let n = c.words.n in
    let w = c.words.w in
    let word = c.next_word.result in (
      length-set w (n + 16) word ∙ c.words.invariant.0,
      take-set-le 16 w (n + 16) word (omega arith) ∙ c.words.invariant.1,
      λ j b in_four words. schedule_more j n b w word (omega arith) (c.words.invariant.2 j b in_four words) (c.next_word.ensures j in_four),
    )

pub returns-clause-words : goal.returns-clause-words
returns-clause-words c j b in_four words =
    let w = c.words.w in
    let done : c.words.n ≡ 64 = omega arith in
    let all : length (lane j w) ≡ 80 = length-map w (λ words. slice_index words j) ∙ c.words.invariant.0 in
    let made = rw done at (c.words.invariant.2 j b in_four words) in
    sym (take_all 80 (lane j w) (omega arith)) ∙ made
