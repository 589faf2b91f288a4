-- What a hasher refuses.
use Rattle.std.proofs.{Common.{arith, ◌≡◌, ℕ, List, [], ◌∷◌, ◌⊎◌}, lemmas.Grind.common_steps}
use Rattle.domain_nsec3.specs.{Chain.{HashedLink, ParamRecord}, View.HasherAnswer}
use Rattle.domain_records.specs.Text.{signing_error_of}
use Rattle.domain_borrowed.specs.Data.{RawRecord}
use Rattle.domain_checker.specs.HashedVerdict.{IsFirstRefusal, links_with}
use Rattle.domain_hasher.specs.declared.error.Nsec3HashError.{Nsec3HashError, TheVariants.{Hasher, OutOfMemory}}
use Rattle.denial_program.specs.{Answer.fault_of_zone, Check.{AreNsec3s, AreParams, HasNoNsec3Verdict}, declared.command.Question.Question}

-- an error of a hash is want of memory, or tells the first name that is refused
pub hash_refused : (hashes : HasherAnswer) (given : List RawRecord) (q : Question) (param : ParamRecord) (links : List HashedLink)
    → AreParams q.apex given (param ∷ []) → AreNsec3s given links → (e : Nsec3HashError) → (e ≡ OutOfMemory) ⊎ ((n : ℕ) × (e ≡ Hasher n))
    → ((n : ℕ) → e ≡ Hasher n → IsFirstRefusal (links_with q.apex param.parameters hashes links) q.name n)
    → HasNoNsec3Verdict hashes given q (fault_of_zone (signing_error_of e))
hash_refused hashes given q param links single are e errors first = grind (arith, common_steps)
