-- The chain of a zone whose records are in any order, and what a verdict or an answer over records
-- of the chain says of them.
pub use Rattle.domain_any_order.specs.AnyOrder.{chain_error_of, AreMixed, HasNoSet, IsWholeHashedChain, View, seen, zone_seen, Sorts}
pub use Rattle.domain_any_order.specs.AnyOrder.{OfZone, HasNone, IsChainOf, HasNoChain, IsHashedChainOf, HasNoHashedChain}
use Rattle.std.specs.Prelude.{◌≡◌, ℕ, List}
use Rattle.domain_record.specs.declared.record.Record.{Record}
use Rattle.domain_names.specs.Name.{Name}
use Rattle.domain_nsec.specs.{Chain.Link, declared.config.GenerateNsecConfig.GenerateNsecConfig}
use Rattle.domain_checker.specs.{Verdict.{proved_verdict, zone_verdict}, declared.verdict.Verdict.Verdict}
use Rattle.domain_nsec3.specs.Chain.{ChainConfig}
use Rattle.domain_checker.specs.HashedVerdict.{HashedRecords}
use Rattle.domain_answer.specs.HashedReading.{AreAskedAlone, hashed_proved_answer, hashed_zone_answer}
use Rattle.domain_answer.specs.{Reading.proved_answer, ZoneAnswer.zone_answer, declared.answer.Answer.Answer}

module _ {N D : Type 0} (v : View N D) where
  module _ (given : List (Record N D)) (apex : Name) (config : GenerateNsecConfig) where
    -- the verdict is what some records of the chain of the given records prove about a name and a
    -- type
    abbrev pub IsProvedOf : List Link → Name → ℕ → Verdict → Type 0
    IsProvedOf listed x t verdict = OfZone v given
        (λ L. verdict ≡ proved_verdict L apex config.assume_dnskeys_will_be_added listed x t)

    -- the verdict is what the zone of the given records says of a name and a type
    abbrev pub IsSaidOf : Name → ℕ → Verdict → Type 0
    IsSaidOf x t verdict = OfZone v given
        (λ L. verdict ≡ zone_verdict L apex config.assume_dnskeys_will_be_added x t)

    -- the same of whole answers
    abbrev pub IsProvedAnswerOf : List Link → Name → ℕ → Answer → Type 0
    IsProvedAnswerOf listed x t answer = OfZone v given
        (λ L. answer ≡ proved_answer L apex config.assume_dnskeys_will_be_added listed x t)

    abbrev pub IsAnswerOf : Name → ℕ → Answer → Type 0
    IsAnswerOf x t answer = OfZone v given
        (λ L. answer ≡ zone_answer L apex config.assume_dnskeys_will_be_added x t)

  module _ (given : List (Record N D)) (R : HashedRecords) (config : ChainConfig) where
    -- the whole answer is what these NSEC3 records of the chain of the given records prove about a
    -- name and a type, unless another name of the chain has a hash that is looked up
    abbrev pub IsProvedHashedAnswerOf : Name → ℕ → Answer → Type 0
    IsProvedHashedAnswerOf x t answer = OfZone v given (λ L. AreAskedAlone L R.apex config x
        → answer ≡ hashed_proved_answer L R.apex config R.links x t)

    -- the same of what the zone of the given records says
    abbrev pub IsHashedAnswerOf : Name → ℕ → Answer → Type 0
    IsHashedAnswerOf x t answer = OfZone v given (λ L. AreAskedAlone L R.apex config x
        → answer ≡ hashed_zone_answer L R.apex config x t)
