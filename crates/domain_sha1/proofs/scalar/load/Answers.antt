use Rattle.std.proofs.Common.{◌∙◌, ◌≡◌, arith, refl}
use Rattle.std.proofs.lemmas.List.{length-set}
use Rattle.sha1.specs.Sha1.{first_words}
use Rattle.domain_sha1.proofs.RoundLemmas.{word_more}
use Rattle.domain_sha1.proofs.scalar.load.Goals as goal

pub words-init : goal.words-init
unfolding first_words
words-init c = (c.told-w, refl)

pub words-preserved : goal.words-preserved
words-preserved c =
    let i = c.words.i in
    let w = c.words.w in
    let word = c.load_word.result in (
      length-set w i word ∙ c.words.invariant.0,
      word_more i c.args.block.now w word (omega arith) c.words.invariant.1 c.load_word.ensures,
    )

pub returns : goal.returns
returns c =
    let done : c.words.i ≡ 16 = omega arith in
    rw done at c.words.invariant.1
