-- What a run of each command promises, one row a command.
use Rattle.std.specs.Prelude.{◌≡◌, ◌∷◌, [], Option, Result, Ok, Err, IfErr, IfOk, IfSome, IsErrOf, MatchResult, OnOk}
use Rattle.std.specs.{Io.KnownBytes.Appends, Str.Lines.lines}
use Rattle.domain_octets.specs.Octets.{Octets}
use Rattle.domain_names.specs.Name.{Name, Token, Tokens}
use Rattle.domain_nsec3.specs.View.{HasherAnswer}
use Rattle.domain_groups.specs.declared.error.SigningError.{SigningError}
use Rattle.domain_includes.specs.Files.{Contents}
use Rattle.denial_program.specs.{Answer.{Answers, GivesNoAnswer}, Command.{IsCommand, Params}}
use Rattle.denial_program.specs.{Fault.{IsBeforeOutput, IsReadToEnd, TellsUsage}, Run.IsProgramRun, Text.reply_text}
use Rattle.denial_program.specs.declared.{answer.ParamFlags.ParamFlags, fault.DenialFault.{DenialFault, TheVariants.{OutOfMemory, Signing}}}
use Rattle.judge_program.specs.{Command.IsJudgeCommand, Run.{GivesNoJudgement, Judges, TellsJudgeUsage}}
use Rattle.lint_program.specs.{Command.{AsksToLint, IsLintCommand, IsRunFault}, Report.{IsLintRefused, IsReport}}
use Rattle.lint_program.specs.declared.outcome.Outcome.{Outcome, TheVariants.Clean}
use Rattle.zone_program.specs.{Run.{IsBeforeWriting, LinesOfRun, NoRun}, declared.fault.ZoneFault.ZoneFault}
use Rattle.denial_commands.specs.Command.{answer_words, IsSubcommand}
use Rattle.denial_commands.specs.declared.{command.Subcommand.{Subcommand, TheVariants.{Denial, Judge, Answer, Lint, Zone}}, fault.CommandFault.CommandFault}
use Rattle.denial_commands.specs.declared.fault.CommandFault.TheVariants as fault_of

-- what a run has: the flags of the NSEC3PARAM record that it writes, the hashes of its hasher, and
-- its input, its output and the octets that these hold, before and after
pub record Setup (W : Type 0) : Type 0 where
  pub flags : ParamFlags
  pub answers : HasherAnswer
  pub input : Option Octets
  pub left : Option Octets
  pub old : Option Octets
  pub new : Option Octets
  pub before : W
  pub after : W

-- ---- The promise of each crate's run.

-- that of `run_with`
pub record IsDenialRun {W : Type 0} (words : Tokens) (on : Setup W)
    (result : Result (Unit {0}) DenialFault) : Type 0 where
  pub run : IsProgramRun (reply_text on.flags) (Answers on.answers words)
      (GivesNoAnswer on.answers words) on.input on.left on.old on.new result
  pub usage : MatchResult result (λ _. IsCommand words) (TellsUsage words)
  pub memory : IsErrOf result OutOfMemory
      → IfSome on.input (λ bytes. GivesNoAnswer on.answers words (lines bytes) OutOfMemory)
  pub memory_end : IsErrOf result OutOfMemory → IsReadToEnd on.input on.left
  pub untouched : IfErr result (λ e. IsBeforeOutput e → on.after ≡ on.before)

-- that of `run_judge`
pub record IsJudgeRun {W : Type 0} (words : Tokens) (on : Setup W)
    (result : Result (Unit {0}) DenialFault) : Type 0 where
  pub run : IsProgramRun (λ text. text) (Judges on.answers words)
      (GivesNoJudgement on.answers words) on.input on.left on.old on.new result
  pub usage : MatchResult result (λ _. IsJudgeCommand words) (TellsJudgeUsage words)
  pub untouched : IfErr result (λ e. IsBeforeOutput e → on.after ≡ on.before)

-- that of `run_lint`
pub record IsLintRun {W : Type 0} (words : Tokens) (on : Setup W)
    (result : Result Outcome DenialFault) : Type 0 where
  pub ok : IfOk result (λ outcome. IfSome on.input (λ bytes. (apex : Name) × (p : Option Params)
      × (text : Octets) × AsksToLint words apex p
      × IsReport on.answers (lines bytes) apex p outcome text × Appends on.old on.new text))
  pub usage : MatchResult result (λ _. IsLintCommand words) (IsRunFault words)
  pub refused : (e : SigningError) → IsErrOf result (Signing e)
      → IfSome on.input (λ bytes. IsLintRefused on.answers words (lines bytes) e)
  pub end : OnOk result (IsReadToEnd on.input on.left)
  pub untouched : IfErr result (λ e. IsBeforeOutput e → on.after ≡ on.before)

-- that of `run_zone`, over a zone file at a path
pub record IsZoneRun {W : Type 0} (gives : Contents) (path : Octets) (words : Tokens) (on : Setup W)
    (result : Result (Unit {0}) ZoneFault) : Type 0 where
  pub ok : OnOk result (IfSome on.input (λ file. (text : Octets)
      × LinesOfRun gives path words file text × Appends on.old on.new text))
  pub err : IfErr result (NoRun gives path words on.input)
  pub untouched : IfErr result (λ e. IsBeforeWriting e → on.after ≡ on.before)

-- ---- What is reported of each.

-- the run has this promise, and its fault is reported as such; else nothing is to be reported
abbrev pub ToldAs : {E : Type 0} → (E → CommandFault) → (Result (Unit {0}) E → Type 0)
    → Result Outcome CommandFault → Type 0
ToldAs {E} told is_run (Ok outcome) = (outcome ≡ Clean) × is_run (Ok tt)
ToldAs {E} told is_run (Err fault) = (e : E) × (fault ≡ told e) × is_run (Err e)

abbrev pub RunsDenial : {W : Type 0} → Tokens → Setup W → Result Outcome CommandFault → Type 0
RunsDenial words on result = ToldAs fault_of.Denial (IsDenialRun words on) result

abbrev pub RunsJudge : {W : Type 0} → Tokens → Setup W → Result Outcome CommandFault → Type 0
RunsJudge words on result = ToldAs fault_of.Judge (IsJudgeRun words on) result

-- `answer` is `judge` with further options
abbrev pub RunsAnswer : {W : Type 0} → Tokens → Setup W → Result Outcome CommandFault → Type 0
RunsAnswer words on result = RunsJudge (answer_words words) on result

-- of `lint` what it found is reported too
abbrev pub RunsLint : {W : Type 0} → Tokens → Setup W → Result Outcome CommandFault → Type 0
RunsLint words on (Ok outcome) = IsLintRun words on (Ok outcome)
RunsLint words on (Err fault) =
    (e : DenialFault) × (fault ≡ fault_of.Lint e) × IsLintRun words on (Err e)

abbrev pub RunsZone : {W : Type 0} → Contents → Octets → Tokens → Setup W
    → Result Outcome CommandFault → Type 0
RunsZone gives path words on result = ToldAs fault_of.Zone (IsZoneRun gives path words on) result

-- ---- The table of commands.

-- a run of this subcommand over the input at a path, with the word that names it, and the arguments
-- behind it
abbrev pub RunsAs : {W : Type 0} → Contents → Octets → Subcommand → Token → Tokens → Setup W
    → Result Outcome CommandFault → Type 0
RunsAs gives path Denial word words on result = RunsDenial (word ∷ words) on result
RunsAs gives path Judge word words on result = RunsJudge words on result
RunsAs gives path Answer word words on result = RunsAnswer words on result
RunsAs gives path Lint word words on result = RunsLint words on result
RunsAs gives path Zone word words on result = RunsZone gives path words on result

-- a run with these arguments; without any it is that of the specification
abbrev pub RunsCommand : {W : Type 0} → Contents → Octets → Tokens → Setup W
    → Result Outcome CommandFault → Type 0
RunsCommand gives path [] on result = RunsDenial [] on result
RunsCommand gives path (word ∷ words) on result =
    (subcommand : Subcommand) × IsSubcommand word subcommand
    × RunsAs gives path subcommand word words on result
