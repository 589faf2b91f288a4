use Rattle.std.proofs.Common.{◌∙◌, ◌≡◌, ℕ, ◌<◌, ◌++◌, List, [], ◌∷◌, sym, ap, drop, arith, replicate, slice_index_or, length-append}
use Rattle.sha1.specs.Sha1.{digest_bytes, first_words, padded_message}
use Rattle.domain_sha1.specs.Iterated.{iterated}
use Rattle.domain_sha1.specs.Lanes.{lane}
use Rattle.domain_sha1.proofs.LaneLemmas.{in_each_lane}
use Rattle.domain_sha1.proofs.IterateLemmas.{tail_words, five_after, digest_after, digest_block, front_states, tail_kept, next_digest}
use Rattle.domain_sha1.proofs.iterate.iterate.Goals as goal

pub iterations-init : goal.iterations-init
unfolding iterated
iterations-init c =
    let salt = c.args.salt.now in
    let pad = c.pad.result in
    let block : ℕ → List ℕ = λ j. slice_index_or c.args.blocks.now j [] in
    let made = λ (j : ℕ) (in_four : j < 4). c.compress-states.ensures.state j (block j) in_four (c.load.ensures j in_four) in
    let template = in_each_lane (λ j. slice_index_or (pad ∷ pad ∷ pad ∷ pad ∷ []) j [] ≡ padded_message (replicate 20 0 ++ salt))
    c.pad.ensures c.pad.ensures c.pad.ensures c.pad.ensures in (
      c.load-2.array_long,
      λ j in_four. ap (drop 5) (c.load-2.ensures j in_four ∙ ap (λ b. first_words b 16) (template j in_four)),
      λ j in_four. five_after _ _ _ (made j in_four),
      λ j name in_four fits held.
          let m = name ++ salt in
          digest_after m _ _ (omega (arith, length-append name salt)) (rw held at (made j in_four)) (c.start.ensures j in_four),
    )

pub iterations-preserved : goal.iterations-preserved
iterations-preserved c =
    let salt = c.args.salt.now in
    let states = c.iterations.states in
    let block : ℕ → List ℕ = λ j. padded_message (digest_bytes (lane j states) 5 ++ salt) in
    let loaded = c.load_states.new.w in
    let five = c.iterations.invariant.2 in
    let front = λ (j : ℕ) (in_four : j < 4).
    front_states j states c.iterations.w loaded (five j in_four) c.load_states.ensures
    ∙ ap (λ tail. lane j states ++ tail) (c.iterations.invariant.1 j in_four) in
    let made = λ (j : ℕ) (in_four : j < 4).
    c.compress-next.ensures.state j (block j) in_four (front j in_four ∙ sym (digest_block (lane j states) salt (five j in_four))) in (
      c.compress-next.array_long,
      λ j in_four. tail_kept j states loaded c.compress-next.new.w (tail_words salt) (five j in_four) (front j in_four) c.compress-next.ensures.kept,
      λ j in_four. five_after _ _ _ (made j in_four),
      λ j name in_four fits held.
          next_digest salt name _ _ (lane j states) c.iterations._round c.requires (c.iterations.invariant.3 j name in_four fits held)
          (made j in_four) (c.start-in-iterations.ensures j in_four),
    )
