use Rattle.std.proofs.{lemmas.Grind.common_steps, Common.{arith, ◌++◌, append_assoc, refl, sym, ◌∙◌}}
use Rattle.denial_c.proofs.AmongLemmas.{passed, refused, refused_data, taken}
use Rattle.denial_c.proofs.nsec.hand_in.Goals as goal

pub returns-in_default-clause-err : goal.returns-in_default-clause-err
returns-in_default-clause-err c = (refl, λ links are. refused _ _ _ _ _ _ links c.records.invariant.read are c.in_default.ensures.none)

pub returns-in_default-read-clause-err : goal.returns-in_default-read-clause-err
returns-in_default-read-clause-err c = (
  refl,
  λ links are. refused_data _ _ _ _ _ _ links c.records.invariant.read are _ c.in-Some.record c.in-Some.ensures.some.0 c.in-Some.ensures.some.1
      (sym c.is_kept.ensures ∙ c.if-is_kept.true) c.in_default-read.ensures.none,
)

pub records-preserved-then-is_kept : goal.records-preserved-then-is_kept
records-preserved-then-is_kept c =
    let s = c.records.invariant in
    record {
      links = _;
      read = taken _ _ _ _ _ _ _ c.in-Some.record _ s.read c.in-Some.ensures.some.0 c.in-Some.ensures.some.1 (sym c.is_kept.ensures ∙ c.if-is_kept.true)
          c.in-Some-read.ensures.some.0 c.in-Some-read.ensures.some.1;
      adds = λ a x t before r. rw (← append_assoc) (c.add.ensures a x t (before ++ s.links) (s.adds a x t before r));
    }

pub records-preserved : goal.records-preserved
records-preserved c = grind (arith, common_steps, passed)
