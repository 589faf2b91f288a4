use Rattle.std.proofs.Common.{◌∙◌, ◌≡◌, ℕ, ◌*◌, arith, refl, slice_index, slice_index_or, List, [], ◌∷◌}
use Rattle.std.proofs.lemmas.List.{length-set}
use Rattle.sha1.specs.Sha1.{first_words, word_at}
use Rattle.domain_sha1.proofs.LaneLemmas.{in_each_lane}
use Rattle.domain_sha1.proofs.RoundLemmas.{words_more}
use Rattle.domain_sha1.proofs.iterate.load.Goals as goal

pub words-init : goal.words-init
unfolding first_words
words-init c = (c.told-w, λ j in_four. refl)

pub words-preserved : goal.words-preserved
words-preserved c =
    let i = c.words.i in
    let w = c.words.w in
    let block : ℕ → List ℕ = λ j. slice_index_or c.args.blocks.now j [] in
    let words : List ℕ = c.load_word.result ∷ c.load_word-in-words.result ∷ c.load_word-in-words-2.result ∷ c.load_word-in-words-3.result ∷ [] in
    let loaded = in_each_lane (λ j. slice_index words j ≡ word_at (block j) (4 * i)) c.load_word.ensures c.load_word-in-words.ensures
    c.load_word-in-words-2.ensures c.load_word-in-words-3.ensures in (
      length-set w i words ∙ c.words.invariant.0,
      λ j in_four. words_more j i (block j) w words (omega arith) (c.words.invariant.1 j in_four) (loaded j in_four),
    )

pub returns : goal.returns
returns c j in_four =
    let done : c.words.i ≡ 16 = omega arith in
    rw done at (c.words.invariant.1 j in_four)
