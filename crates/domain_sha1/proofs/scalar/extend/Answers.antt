use Rattle.std.proofs.Common.{◌∙◌, ◌+◌, ◌≡◌, arith, sym}
use Rattle.std.proofs.lemmas.List.{length-set, take_all}
use Rattle.sha1.specs.Sha1.{schedule}
use Rattle.domain_sha1.proofs.RoundLemmas.{scheduled_more}
use Rattle.domain_sha1.proofs.scalar.extend.Goals as goal

pub words-init : goal.words-init
unfolding schedule
words-init c = (c.told-w, λ b words. words)

pub words-preserved : goal.words-preserved
words-preserved c =
    let n = c.words.n in
    let w = c.words.w in
    let word = c.next_word.result in (
      length-set w (n + 16) word ∙ c.words.invariant.0,
      λ b words. scheduled_more n b w word (omega arith) (c.words.invariant.1 b words) c.next_word.ensures,
    )

pub returns : goal.returns
returns c b words =
    let done : c.words.n ≡ 64 = omega arith in
    sym (take_all 80 c.words.w (omega arith)) ∙ rw done at (c.words.invariant.1 b words)
