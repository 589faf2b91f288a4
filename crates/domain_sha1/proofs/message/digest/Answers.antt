use Rattle.std.proofs.Common.{rules, ◌∙◌, ◌≡◌, arith, refl, sym, ap}
use Rattle.std.proofs.lemmas.List.{take_all}
use Rattle.std.proofs.lemmas.Slice.{overwrites}
use Rattle.std.specs.Int.{w32, to_be_bytes}
use Rattle.sha1.specs.Sha1.{digest_bytes}
use Rattle.domain_sha1.specs.Lanes.{lane}
use Rattle.domain_sha1.proofs.LaneLemmas.{lane_at}
use Rattle.domain_sha1.proofs.MessageLemmas.{digest_more}
use Rattle.domain_sha1.proofs.message.digest.Goals as goal

pub words-init : goal.words-init
unfolding digest_bytes
words-init c = (refl, refl)

pub words-preserved : goal.words-preserved
words-preserved c =
    let state = c.args.state.now in
    let word = sym (lane_at c.args.j state c.words.i) in (
      search (rules, overwrites),
      digest_more c.words.digest (lane c.args.j state) _ c.words.i _ c.words.invariant.1 (omega arith)
          (c.copy_from_slice.ensures.after ∙ c.to_be_bytes.ensures ∙ ap (to_be_bytes w32) word),
    )

pub returns : goal.returns
returns c =
    let done : c.words.i ≡ 5 = omega arith in
    sym (take_all 20 c.words.digest (omega arith)) ∙ rw done at c.words.invariant.1
