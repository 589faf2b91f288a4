use Rattle.std.proofs.{Common.{◌≡◌, ℕ, List, arith}, lemmas.Grind.common_steps}
use Rattle.domain_names.specs.Name.{Name}
use Rattle.domain_nsec.specs.Chain.{Link}
use Rattle.domain_checker.{proofs.{MeantLemmas.handed_in, nsec.NsecCheck.verdict.Goals.After-to_int-number}, specs.Reading.{HasRead, IsChecked}}
use Rattle.domain_checker.specs.{Reading.verdict_of_list, declared.verdict.Verdict.Verdict}
use Rattle.domain_checker.proofs.nsec.NsecCheck.verdict.Goals as goal

-- what the records say is what is promised
checked : (c : After-to_int-number) (a x : Name) (t : ℕ) (listed : List Link) → HasRead a x t listed c.args.self.now → (verdict : Verdict)
    → verdict_of_list a listed x t ≡ verdict → IsChecked listed a x t verdict
checked c a x t listed h verdict is = grind (arith, common_steps)

pub returns-then-not-ends_with : goal.returns-then-not-ends_with
returns-then-not-ends_with c a x t listed h = checked (goal.at.returns-then-not-ends_with c).After-to_int-number a x t listed h _ (grind (arith, common_steps))

pub returns : goal.returns
returns c a x t listed h = checked (goal.at.returns c).After-to_int-number a x t listed h _ (grind (arith, common_steps, handed_in))
