-- What the records say by what was found for the closest encloser of a name.
use Rattle.domain_answer.proofs.HashedAnswerLemmas.{IsAsked, asked_below}
use Rattle.domain_answer.specs.HashedReading.{IsHashedRead, IsHashedWildcardWitness, IsReadOn, IsWildcardRead, found_answer}
use Rattle.domain_answer.specs.declared.answer.Answer.{Answer, TheVariants.NoCloserName}
use Rattle.domain_checker.specs.{HashedReading.{Encloser, IsFoundEncloser}, HashedVerdict.HashedRecords}
use Rattle.domain_names.specs.Name.{Name}
use Rattle.std.proofs.{Common.{None, Option, arith, length, refl, subst, sym, ℕ, ◌∙◌, ◌≡◌}, lemmas.Grind.common_steps}

module _ (R : HashedRecords) (x : Name) (t : ℕ) where
  -- what is said without the wildcard
  pub record IsSaid (answer : Answer) : Type 0 where
    pub found : Option Encloser
    pub is : IsFoundEncloser R x found
    pub says : found_answer R.apex found (length x) t ≡ answer

  -- what is said is what the records say, by the wildcard where that is asked for
  pub read_wild : (first answer : Answer) → IsSaid first → (n : ℕ) → first ≡ NoCloserName n → IsWildcardRead R x t n answer
      → IsHashedRead R x t answer
  read_wild first answer said n e wild = record { found = said.found; is = said.is; ends = rw (said.says ∙ e) wild }

  pub read_first : (answer : Answer) → IsSaid answer → ((n : ℕ) → answer ≡ NoCloserName n → ⊥) → IsHashedRead R x t answer
  read_first answer said other = record { found = said.found; is = said.is; ends = rw said.says (same answer other) }
    where
      same : (first : Answer) → ((n : ℕ) → first ≡ NoCloserName n → ⊥) → IsReadOn R x t first first
      same (NoCloserName n) other = absurd (other n refl)
      same first other = grind (arith, common_steps)

  -- without a question about the wildcard nothing was found for it
  pub first_witness : (found : Option Encloser) (first : Answer) → found_answer R.apex found (length x) t ≡ first
      → ((n : ℕ) → first ≡ NoCloserName n → ⊥) → IsHashedWildcardWitness R x t (found_answer R.apex found (length x) t) first None
  first_witness found first says other = subst (λ a. IsHashedWildcardWitness R x t a first None) (sym says) (same first other)
    where
      same : (first : Answer) → ((n : ℕ) → first ≡ NoCloserName n → ⊥) → IsHashedWildcardWitness R x t first first None
      same (NoCloserName n) other = absurd (other n refl)
      same first other = grind (arith, common_steps)

  -- the wildcard that is asked for
  pub asked_of : (first : Answer) → IsSaid first → (n : ℕ) → first ≡ NoCloserName n → IsAsked R x t n
  asked_of first said n e = asked_below R x t n said.found said.is (said.says ∙ e)
