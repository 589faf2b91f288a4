-- Parameters that tokens add one by one.
use Rattle.std.proofs.Common.{◌≡◌, ℕ, ◌+◌, ◌<◌, ◌≤◌, List, [], ◌∷◌, length, drop, refl, sym, subst, arith, inl, inr}
use Rattle.std.proofs.lemmas.{Grind.common_steps}
use Rattle.domain_svcb.specs.{Values.Parameter, Parameters.AreGathered}
use Rattle.domain_types.specs.Reading.{TokenText, token_texts, AreUnquoted, AddsToken, ParameterTokenFault, AllParametersFault, ParametersFault}
use Rattle.domain_types.specs.declared.token.DataFaultKind.{DataFaultKind}

-- the first tokens add these parameters; what is left of the tokens decides about the rest
pub record HaveAdded (tokens : List TokenText) (place : ℕ) (now : List Parameter) : Type 0 where
  pub unquoted : AreUnquoted (drop place tokens) → AreUnquoted tokens
  pub back : (all : List Parameter) → AreGathered now (token_texts (drop place tokens)) all → AreGathered [] (token_texts tokens) all
  pub fault : (later : ℕ) (kind : DataFaultKind) → ParametersFault now (drop place tokens) later kind → ParametersFault [] tokens (place + later) kind

pub adding_begins : (tokens : List TokenText) (now : List Parameter) → now ≡ [] → HaveAdded tokens 0 now
adding_begins tokens now none = record {
  unquoted = λ all. all;
  back = λ all is. subst (λ n. AreGathered n (token_texts tokens) all) none is;
  fault = λ later kind is. subst (λ n. ParametersFault [] tokens n kind) (let e : later ≡ 0 + later = omega arith in e)
      (subst (λ n. ParametersFault n tokens later kind) none is);
}

pub adding_next : (tokens : List TokenText) (place : ℕ) (token : TokenText) (old new : List Parameter) → place < length tokens
    → drop place tokens ≡ token ∷ drop (place + 1) tokens → HaveAdded tokens place old → AddsToken token old new → HaveAdded tokens (place + 1) new
adding_next tokens place token old new below rest so adds = record {
  unquoted = λ later. so.unquoted (subst AreUnquoted (sym rest) (adds.unquoted, later));
  back = λ all is. so.back all (subst (λ ts. AreGathered old (token_texts ts) all) (sym rest) (new, adds.adds, is));
  fault = λ later kind is.
      let more : ParametersFault old (drop place tokens) (later + 1) kind =
      subst (λ ts. ParametersFault old ts (later + 1) kind) (sym rest) (inr (new, adds, (later, refl, is))) in
      subst (λ n. ParametersFault [] tokens n kind) (let e : place + (later + 1) ≡ place + 1 + later = omega arith in e) (so.fault (later + 1) kind more);
}

pub adding_fault : (tokens : List TokenText) (place : ℕ) (token : TokenText) (now : List Parameter) (kind : DataFaultKind)
    → drop place tokens ≡ token ∷ drop (place + 1) tokens → HaveAdded tokens place now → ParameterTokenFault now token kind
    → ParametersFault [] tokens place kind
adding_fault tokens place token now kind rest so wrong =
    let here : ParametersFault now (drop place tokens) 0 kind = subst (λ ts. ParametersFault now ts 0 kind) (sym rest) (inl (refl, wrong)) in
    subst (λ n. ParametersFault [] tokens n kind) (let e : place + 0 ≡ place = omega arith in e) (so.fault 0 kind here)

none_left : (tokens : List TokenText) (place : ℕ) → length tokens ≤ place → drop place tokens ≡ []
none_left tokens place over = grind (arith, common_steps)

pub adding_ends : (tokens : List TokenText) (place : ℕ) (now : List Parameter) → length tokens ≤ place → HaveAdded tokens place now
    → AreUnquoted tokens × AreGathered [] (token_texts tokens) now
adding_ends tokens place now over so = (
  so.unquoted (subst AreUnquoted (sym (none_left tokens place over)) tt),
  so.back now (subst (λ ts. AreGathered now (token_texts ts) now) (sym (none_left tokens place over)) refl),
)

pub adding_end_fault : (tokens : List TokenText) (place n : ℕ) (now : List Parameter) (kind : DataFaultKind) → length tokens ≤ place → place ≡ n
    → HaveAdded tokens place now → AllParametersFault now kind → ParametersFault [] tokens n kind
adding_end_fault tokens place n now kind over same so wrong =
    let here : ParametersFault now (drop place tokens) 0 kind =
    subst (λ ts. ParametersFault now ts 0 kind) (sym (none_left tokens place over)) (refl, wrong) in
    subst (λ n. ParametersFault [] tokens n kind) (let e : place + 0 ≡ n = omega (arith, same) in e) (so.fault 0 kind here)
