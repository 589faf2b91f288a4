-- The output of a run for its arguments and lines, and when each of its faults is reported.
use Rattle.std.specs.Prelude.{◌≡◌, List, ◌++◌, Option, filter}
use Rattle.domain_octets.specs.Octets.{Octets}
use Rattle.domain_names.specs.Name.{Tokens}
use Rattle.domain_nsec3.specs.View.{HasherAnswer}
use Rattle.domain_borrowed.specs.Data.{RawRecord}
use Rattle.domain_answer.specs.declared.answer.Answer.{Answer}
use Rattle.domain_checker.specs.HashedVerdict.{links_with}
use Rattle.denial_program.specs.{Run.HoldsOfInput, declared.{command.Question.Question, fault.DenialFault.{DenialFault, TheVariants.{Usage, Unprepared}}}}
use Rattle.denial_program.specs.declared.fault.DenialFault.TheVariants.{OutOfMemory}
use Rattle.judge_program.specs.{Command.{AsksToJudge, IsJudgeCommand, IsNoJudgeCommand}, Told.shows_records}
use Rattle.judge_program.specs.Judged.{has_known_flags, IsNotNsec3Judged, IsNsec3Judged, IsNsecJudged}
use Rattle.judge_program.specs.{Told.{below_text, nsec_tellings, AreNsec3Told, Tellings}, Text.first_line, declared.command.ChainKind.ChainKind}
use Rattle.judge_program.specs.declared.{command.{ChainKind.TheVariants.{Nsec, Nsec3}, Nsec3Options.Nsec3Options}, shown.Shown.Shown}

-- the text has what the NSEC records answer to the question, on one line, and below it, on request,
-- the records that the answer rests on, or those with which a server answers
pub record IsNsecText (given : List RawRecord) (q : Question) (shown : Shown) (text : Octets)
    : Type 0 where
  pub answer : Answer
  pub judged : IsNsecJudged given q answer
  pub is : text ≡ first_line shown q.name answer
      ++ below_text shown answer (nsec_tellings q.apex judged.links q.name answer)

-- the same for what the NSEC3 records answer
pub record IsNsec3Text (hashes : HasherAnswer) (given : List RawRecord) (q : Question)
    (asked : Nsec3Options) (shown : Shown) (text : Octets) : Type 0 where
  pub answer : Answer
  pub judged : IsNsec3Judged hashes given q asked answer
  pub told : Option Tellings
  pub are : AreNsec3Told (shows_records answer) shown asked.labels asked.limit judged.param
      (links_with q.apex judged.param.parameters hashes judged.links) q.name answer told
  pub is : text ≡ first_line shown q.name answer ++ below_text shown answer told

-- the same for what records of this kind of chain answer
abbrev pub IsJudgeText : HasherAnswer → ChainKind → List RawRecord → Question → Shown → Octets → Type 0
IsJudgeText hashes Nsec given q shown text = IsNsecText given q shown text
IsJudgeText hashes (Nsec3 asked) given q shown text =
    IsNsec3Text hashes (filter has_known_flags given) q asked shown text

-- the reason why they have no answer
abbrev pub HasNoText : HasherAnswer → ChainKind → List RawRecord → Question → DenialFault → Type 0
HasNoText hashes Nsec given q fault = fault ≡ OutOfMemory
HasNoText hashes (Nsec3 asked) given q fault =
    IsNotNsec3Judged hashes (filter has_known_flags given) q asked fault

-- the arguments are a command, the lines give records, and this is the text of their answer; they
-- have none, for this reason
abbrev pub Judges : HasherAnswer → Tokens → List Octets → Octets → Type 0
Judges hashes words lines text =
    HoldsOfInput AsksToJudge (λ command given. IsJudgeText hashes command.kind given command.question
    command.shown text) words lines

abbrev pub GivesNoJudgement : HasherAnswer → Tokens → List Octets → DenialFault → Type 0
GivesNoJudgement hashes words lines fault =
    HoldsOfInput AsksToJudge (λ command given. HasNoText hashes command.kind given command.question fault) words
    lines

-- `Usage` says that the arguments are no command; any other fault, except out of memory, says that
-- they are one
abbrev pub TellsJudgeUsage : Tokens → DenialFault → Type 0
TellsJudgeUsage words Usage = IsNoJudgeCommand words
TellsJudgeUsage words (Unprepared e) = Unit {0}
TellsJudgeUsage words OutOfMemory = Unit {0}
TellsJudgeUsage words _ = IsJudgeCommand words
