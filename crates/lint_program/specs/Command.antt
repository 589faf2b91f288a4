-- The command that the arguments of the program spell, and the faults of a run.
use Rattle.std.specs.Prelude.{◌≡◌, ◌∷◌, [], Option, Some, None}
use Rattle.domain_names.specs.{Text.NameText, Name.{Name, Token, Tokens}}
use Rattle.denial_program.specs.{Command.{Params, Spell}, declared.fault.DenialFault.{DenialFault, TheVariants.{Usage, Read, Signing, Write, OutOfMemory}}}

-- the only argument spells the apex
pub record AsksPlainly (words : Tokens) (apex : Name) : Type 0 where
  pub word : Token
  pub are : words ≡ word ∷ []
  pub names : NameText word apex

-- the three arguments spell the apex and the parameters of an NSEC3 chain without opt-out
pub record AsksHashed (words : Tokens) (apex : Name) (p : Params) : Type 0 where
  pub apex_word : Token
  pub iterations_word : Token
  pub salt_word : Token
  pub are : words ≡ apex_word ∷ iterations_word ∷ salt_word ∷ []
  pub names : NameText apex_word apex
  pub parameters : Spell iterations_word salt_word [] p

-- the arguments spell this apex, and these parameters or none
abbrev pub AsksToLint : Tokens → Name → Option Params → Type 0
AsksToLint words apex None = AsksPlainly words apex
AsksToLint words apex (Some p) = AsksHashed words apex p

abbrev pub IsLintCommand : Tokens → Type 0
IsLintCommand words = (apex : Name) × (p : Option Params) × AsksToLint words apex p

abbrev pub IsNoLintCommand : Tokens → Type 0
IsNoLintCommand words = (apex : Name) (p : Option Params) → AsksToLint words apex p → ⊥

-- the arguments have parameters
abbrev pub IsHashedCommand : Tokens → Type 0
IsHashedCommand words = (apex : Name) × (p : Params) × AsksHashed words apex p

-- the fault of a run: `Usage` if and only if the arguments are no command, unless memory runs out;
-- an error of hashing only if the arguments have parameters; none is about a line or the records,
-- which the report covers
abbrev pub IsRunFault : Tokens → DenialFault → Type 0
IsRunFault words Usage = IsNoLintCommand words
IsRunFault words Read = IsLintCommand words
IsRunFault words (Signing e) = IsHashedCommand words
IsRunFault words Write = IsLintCommand words
IsRunFault words OutOfMemory = Unit {0}
IsRunFault words _ = ⊥
