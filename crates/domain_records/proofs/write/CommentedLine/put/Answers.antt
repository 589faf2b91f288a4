use Rattle.std.proofs.{Common.{refl, [], ◌∷◌}, lemmas.Result.on_ok_weaker}
use lib.Utf8.{encode}
use Rattle.domain_records.proofs.LookupLemmas.{one_call}
use Rattle.domain_records.proofs.write.CommentedLine.put.Goals as goal

pub returns : goal.returns
unfolding encode
returns g c =
    on_ok_weaker c.write_char.result (λ u. (
      c.write.new.self,
      c.comment.new.arg3,
      c.in_ok-write.ensures.writes,
      record { shown = c.args.item; shows = refl; target = _; before = refl; left = _; called = c.in_ok-comment.ensures; after = refl },
      one_call _ _ _ (10 ∷ []) u,
    )) c.write_char.ensures.writes
