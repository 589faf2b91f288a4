-- grammars of tokens: which of them read tokens in one way at most, and that what they refuse they do not read
use Rattle.std.proofs.{Common.{arith, ◌≡◌, ℕ, List, Option}, lemmas.Grind.common_steps}
use Rattle.domain_codecs.specs.declared.codec.Codec.{Codec}
use Rattle.domain_names.specs.Text.{ScanFault, IsOfTokens}
use Rattle.domain_base.{specs.Scan.{OneToken, RefusesToken, Grammar, Refusal}, proofs.TextLemmas.{token_excludes, token_one_fault}}
use Rattle.domain_fields.specs.Scan.{Spells, RefusesData, Both, RefusesBoth, ReadsOnce, IsExact}

-- a token that spells one value, or is refused for one reason
pub token_exact : {V : Type 0} (IsOwn : ScanFault → Type 0) (spells : List ℕ → V → Type 0) (Why : ScanFault → List ℕ → Type 0)
    → ((text : List ℕ) (v w : V) → spells text v → spells text w → v ≡ w)
    → ((fault : ScanFault) (text : List ℕ) (v : V) → Why fault text → spells text v → IsOwn fault → ⊥)
    → ((x y : ScanFault) (text : List ℕ) → Why x text → Why y text → IsOwn x → IsOwn y → x ≡ y) → IsExact IsOwn (OneToken spells) (RefusesToken Why)
token_exact IsOwn spells Why once none one = grind (arith, common_steps, token_excludes, token_one_fault)

-- one grammar after another
pub both_exact : {V W : Type 0} (IsOwn : ScanFault → Type 0) (A : Grammar V) (B : Grammar W) (RA RB : Refusal)
    → IsExact IsOwn A RA → IsExact IsOwn B RB → IsExact IsOwn (Both A B) (RefusesBoth A RA RB)
both_exact IsOwn A B RA RB a b = grind (arith, common_steps)

-- where fewer reasons count as their own
pub exact_for : {V : Type 0} {IsOwn Fewer : ScanFault → Type 0} (G : Grammar V) (R : Refusal) → ((fault : ScanFault) → Fewer fault → IsOwn fault)
    → IsExact IsOwn G R → IsExact Fewer G R
exact_for G R own exact = grind (arith, common_steps)

-- fields and then octets, which all tokens that are left spell together
module _ {V : Type 0} (G : Grammar V) (once : ReadsOnce G) (codec : Codec) (old : List (List ℕ)) (v w : V) (x y : List ℕ)
    (first : Spells G codec old v x) (second : Spells G codec old w y) where
  pub same_fields : v ≡ w
  same_fields = once.value old first.entry second.entry v w first.fields second.fields

  pub same_octets : x ≡ y
  same_octets = grind (arith, common_steps)

module _ {V : Type 0} (limit : Option ℕ) (G : Grammar V) (R : Refusal)
    (exact : IsExact (IsOfTokens limit) G R) (Unfit : V → List ℕ → Type 0) (message : List ℕ) (codec : Codec) where
  module _ (old new : List (List ℕ)) (fault : ScanFault) (own : IsOfTokens limit fault) (v : V) (octets : List ℕ) (is : Spells G codec old v octets) where
    pub entry_refused : (Unfit v octets → ⊥) → RefusesData G R limit Unfit message codec old new fault → ⊥
    entry_refused fits h = grind (arith, common_steps)

  -- data are refused, but for want of room or memory, for one reason
  pub entry_refused_once : (old m n : List (List ℕ)) (x y : ScanFault)
      → RefusesData G R limit Unfit message codec old m x → RefusesData G R limit Unfit message codec old n y
      → IsOfTokens limit x → IsOfTokens limit y → x ≡ y
  entry_refused_once old m n x y h h7 own also = grind (arith, common_steps)
