-- The command that the arguments of the program spell.
use Rattle.std.specs.Prelude.{◌≡◌, ◌⊎◌, ℕ, [], ◌∷◌, codes, Option, Some, None}
use Rattle.domain_base.specs.Scan.{IsNumber}
use Rattle.domain_names.specs.Name.{Name, Token, Tokens}
use Rattle.denial_program.specs.Command.{SpellQuestion}
use Rattle.judge_program.specs.declared.{command.{ChainKind.{ChainKind, TheVariants.{Nsec, Nsec3}}, Command.Command}, shown.Shown.Shown}
use Rattle.judge_program.specs.declared.shown.Shown.TheVariants.{Answer, Why, Records}

-- the limit of iterations without an option
abbrev pub usual_limit : ℕ
usual_limit = 150

-- options that ask for only the answer, for the records that it rests on, or for those with which a
-- server answers
abbrev pub ShownText : Tokens → Shown → Type 0
ShownText [] shown = shown ≡ Answer
ShownText (option ∷ []) shown =
    ((option ≡ codes "--why") × (shown ≡ Why)) ⊎ ((option ≡ codes "--records") × (shown ≡ Records))
ShownText (option ∷ other ∷ more) shown = ⊥

-- options that may begin with a limit of iterations
abbrev pub LimitText : Tokens → ℕ → Shown → Type 0
LimitText [] limit shown = (limit ≡ usual_limit) × (shown ≡ Answer)
LimitText (option ∷ []) limit shown = (limit ≡ usual_limit) × ShownText (option ∷ []) shown
LimitText (option ∷ word ∷ more) limit shown =
    (option ≡ codes "--limit") × IsNumber 16 word limit × ShownText more shown

-- options that may begin with labels, before the limit
abbrev pub LabelsText : Tokens → Option ℕ → ℕ → Shown → Type 0
LabelsText options None limit shown = LimitText options limit shown
LabelsText [] (Some n) limit shown = ⊥
LabelsText (option ∷ []) (Some n) limit shown = ⊥
LabelsText (option ∷ word ∷ more) (Some n) limit shown =
    (option ≡ codes "--labels") × IsNumber 8 word n × LimitText more limit shown

-- an argument names the kind of chain, and these options belong to it
abbrev pub KindText : Token → Tokens → ChainKind → Shown → Type 0
KindText word options Nsec shown = (word ≡ codes "nsec") × ShownText options shown
KindText word options (Nsec3 asked) shown =
    (word ≡ codes "nsec3") × LabelsText options asked.labels asked.limit shown

-- the arguments spell the command for what records of this kind of chain answer to the question
pub record AsksToJudge (words : Tokens) (command : Command) : Type 0 where
  pub kind_word : Token
  pub apex_word : Token
  pub name_word : Token
  pub type_word : Token
  pub options : Tokens
  pub are : words ≡ kind_word ∷ apex_word ∷ name_word ∷ type_word ∷ options
  pub kind : KindText kind_word options command.kind command.shown
  pub question : SpellQuestion apex_word name_word type_word command.question

-- the arguments spell a command for the zone at this apex
abbrev pub AsksToJudgeAbout : Tokens → Name → Type 0
AsksToJudgeAbout words apex =
    (command : Command) × AsksToJudge words command × (command.question.apex ≡ apex)

abbrev pub IsJudgeCommand : Tokens → Type 0
IsJudgeCommand words = (command : Command) × AsksToJudge words command

abbrev pub IsNoJudgeCommand : Tokens → Type 0
IsNoJudgeCommand words = (command : Command) → AsksToJudge words command → ⊥
