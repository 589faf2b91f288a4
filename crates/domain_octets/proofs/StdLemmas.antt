-- tests, options and results: laws of std under the names that they have here, and two that std has not
pub use Rattle.std.proofs.Math.Bool.{or-false as or_false, or-true as or_true, and-true as and_true, and-false as and_false}
pub use Rattle.std.proofs.lemmas.Option.{none-some as none_some}
use Rattle.std.{proofs.Common.{◌≡◌, refl, subst, sym, Option, Some, None, Result, Ok, Err, IfErr}, specs.{Prelude.IsErrAnd, Option.option_or}}

pub or_none : {X : Type 0} (o : Option X) → option_or o None ≡ o
or_none None = refl
or_none (Some x) = refl

-- what holds of an error that is handed on
pub if_err_of : {X E : Type 0} (P : E → Type 0) (e : E) (r : Result X E) → IsErrAnd r (λ f. f ≡ e) → P e → IfErr r P
if_err_of P e (Ok x) h p = tt
if_err_of P e (Err f) h p = subst P (sym h) p
