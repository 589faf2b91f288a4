-- What a sorter asks of its comparison.
use Rattle.std.specs.{Prelude.◌≡◌, declared.cmp.Ordering.Ordering, Fn.{Mut, AlwaysReturns}}
use denote.Ref.{Bor}

-- each call from f on, at two references, returns what R gives
abbrev pub AnswersBy : {F X : Type 0} → Mut F (Bor X × (Bor X × Unit {0})) Ordering
    → (X → X → Ordering) → F → Type 0
AnswersBy g R = AlwaysReturns g (λ a r. r ≡ R a.0.now a.1.0.now)
