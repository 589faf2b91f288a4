-- A run of a command over the records of a zone file.
use Rattle.std.specs.{Prelude.{◌≡◌, ◌⊎◌, ◌||◌, [], ◌∷◌, Bool, false, Option, Some, Result, Ok, Err, codes, string_bytes}, Str.{bytes_eq, Lines.lines}}
use Rattle.domain_octets.specs.Octets.{Octets}
use Rattle.domain_names.specs.Name.{Name, Token, Tokens}
use Rattle.domain_nsec3.specs.View.{HasherAnswer}
use Rattle.domain_includes.specs.Files.{Contents}
use Rattle.denial_program.specs.Command.{AsksAbout, IsNoCommand, Params}
use Rattle.denial_program.specs.declared.{answer.ParamFlags.TheVariants.{Zero as zero_flags}, fault.DenialFault.DenialFault}
use Rattle.denial_program.specs.declared.fault.DenialFault.TheVariants as denial_fault
use Rattle.judge_program.specs.Command.{AsksToJudgeAbout, IsNoJudgeCommand}
use Rattle.lint_program.specs.{Command.{AsksToLint, IsNoLintCommand}, Report.IsReport, declared.outcome.Outcome.Outcome}
use Rattle.zone_program.specs.Lines.{AreLinesOf, NoLines}
use Rattle.zone_program.specs.declared.{places.ZoneLines.ZoneLines, fault.ZoneFault.TheVariants.{Usage as zone_usage}}
use Rattle.denial_commands.specs.{Command.{answer_words, IsSubcommand}, Run.{RunsCommand, Setup}, Source.is_one_of}
use Rattle.denial_commands.specs.declared.command.Subcommand.{Subcommand, TheVariants.{Denial, Judge, Answer, Lint, Zone}}
use Rattle.denial_commands.specs.declared.{zone.ZoneRun.ZoneRun, fault.ZoneRunFault.{ZoneRunFault, TheVariants.{Command, File, Records}}}
use Rattle.denial_commands.specs.declared.fault.CommandFault.{CommandFault}
use Rattle.denial_commands.specs.declared.fault.CommandFault.TheVariants as fault_of

-- the command leaves out the records that a signer adds
abbrev pub leaves_out_by : Token → Bool
leaves_out_by word =
    is_one_of word (codes "nsec") (codes "nsec3") || bytes_eq word (codes "lint")

abbrev pub leaves_out : Tokens → Bool
leaves_out [] = false
leaves_out (word ∷ more) = leaves_out_by word

-- the arguments of `lint` name this apex
abbrev pub AsksToLintAbout : Tokens → Name → Type 0
AsksToLintAbout words apex = (p : Option Params) × AsksToLint words apex p

-- the arguments of this subcommand name this apex
abbrev pub IsAboutAs : Subcommand → Token → Tokens → Name → Type 0
IsAboutAs Denial word words apex = AsksAbout (word ∷ words) apex
IsAboutAs Judge word words apex = AsksToJudgeAbout words apex
IsAboutAs Answer word words apex = AsksToJudgeAbout (answer_words words) apex
IsAboutAs Lint word words apex = AsksToLintAbout words apex
IsAboutAs Zone word words apex = ⊥

-- the arguments name this apex
abbrev pub IsAbout : Tokens → Name → Type 0
IsAbout [] apex = AsksAbout [] apex
IsAbout (word ∷ words) apex =
    (subcommand : Subcommand) × IsSubcommand word subcommand
    × IsAboutAs subcommand word words apex

-- the arguments are no command, or memory ran out
abbrev pub IsNoneOf : Type 0 → (DenialFault → CommandFault) → CommandFault → Type 0
IsNoneOf none told fault =
    ((fault ≡ told denial_fault.Usage) × none) ⊎ (fault ≡ told denial_fault.OutOfMemory)

abbrev pub HasNoDeniedApex : Tokens → CommandFault → Type 0
HasNoDeniedApex words fault = IsNoneOf (IsNoCommand words) fault_of.Denial fault

abbrev pub HasNoJudgedApex : Tokens → CommandFault → Type 0
HasNoJudgedApex words fault = IsNoneOf (IsNoJudgeCommand words) fault_of.Judge fault

abbrev pub HasNoLintedApex : Tokens → CommandFault → Type 0
HasNoLintedApex words fault = IsNoneOf (IsNoLintCommand words) fault_of.Lint fault

abbrev pub HasNoApexAs : Subcommand → Token → Tokens → CommandFault → Type 0
HasNoApexAs Denial word words fault = HasNoDeniedApex (word ∷ words) fault
HasNoApexAs Judge word words fault = HasNoJudgedApex words fault
HasNoApexAs Answer word words fault = HasNoJudgedApex (answer_words words) fault
HasNoApexAs Lint word words fault = HasNoLintedApex words fault
HasNoApexAs Zone word words fault = fault ≡ fault_of.Zone zone_usage

abbrev pub HasNoApex : Tokens → CommandFault → Type 0
HasNoApex [] fault = HasNoDeniedApex [] fault
HasNoApex (word ∷ words) fault =
    (subcommand : Subcommand) × IsSubcommand word subcommand
    × HasNoApexAs subcommand word words fault

-- the file at a path has these lines for the apex of the arguments
abbrev pub AreLinesFor : Contents → Octets → Tokens → Octets → ZoneLines → Type 0
AreLinesFor gives path words file lines =
    (apex : Name) × IsAbout words apex × AreLinesOf gives path file apex (leaves_out words) lines

-- why it has none: the arguments are no command, or the first fault of the file
abbrev pub HaveNoLines : Contents → Octets → Tokens → Octets → ZoneRunFault → Type 0
HaveNoLines gives path words file (Command fault) = HasNoApex words fault
HaveNoLines gives path words file (File fault) =
    (apex : Name) × IsAbout words apex × NoLines gives path file apex fault
HaveNoLines gives path words file (Records fault lines) = ⊥

-- the file at a path has these lines, and the command runs over them
pub record RunsOnFile {W : Type 0} (gives : Contents) (path : Octets) (words : Tokens)
    (file : Octets) (answers : HasherAnswer) (old new : Option Octets) (before after : W)
    (lines : ZoneLines) (result : Result Outcome CommandFault) : Type 0 where
  pub are : AreLinesFor gives path words file lines
  pub left : Option Octets
  pub run : RunsCommand gives path words (record {
    flags = zero_flags;
    answers = answers;
    input = Some (string_bytes lines.text);
    left = left;
    old = old;
    new = new;
    before = before;
    after = after;
  }) result

-- a run over a file: the arguments are no command; or this is the first fault of the file; or the
-- command runs over its lines. Only then is anything written
abbrev pub RunsOverZone : {W : Type 0} → Contents → Octets → Tokens → Octets → HasherAnswer
    → Option Octets → Option Octets → W → W → Result ZoneRun ZoneRunFault → Type 0
RunsOverZone gives path words file answers old new before after (Ok found) =
    RunsOnFile gives path words file answers old new before after found.lines (Ok found.outcome)
RunsOverZone gives path words file answers old new before after (Err (Records fault lines)) =
    RunsOnFile gives path words file answers old new before after lines (Err fault)
RunsOverZone gives path words file answers old new before after (Err (Command fault)) =
    HasNoApex words fault × (after ≡ before)
RunsOverZone gives path words file answers old new before after (Err (File fault)) =
    (apex : Name) × IsAbout words apex × NoLines gives path file apex fault × (after ≡ before)

-- the report of `lint` with these arguments on a text
abbrev pub IsReportOf : HasherAnswer → Tokens → Octets → Octets → Type 0
IsReportOf answers words text report =
    (apex : Name) × (p : Option Params) × (outcome : Outcome) × AsksToLint words apex p
    × IsReport answers (lines text) apex p outcome report
