-- When each fault is reported, and what is printed of it.
use Rattle.std.specs.{Prelude.{◌≡◌, ℕ, [], Option, Some, IfSome, ◌++◌, codes}, Fmt.decimal}
use Rattle.domain_octets.specs.Octets.{Octets}
use Rattle.domain_names.specs.Name.{Tokens}
use Rattle.denial_program.specs.{Command.{IsCommand, IsNoCommand}, declared.fault.DenialFault.{DenialFault, TheVariants.{Usage, Read, Line, Unprepared}}}
use Rattle.denial_program.specs.declared.{fault.DenialFault.TheVariants.{MixedClasses, Signing, Param, Write, OutOfMemory}, prepare.PrepareError.PrepareError}
use Rattle.domain_records.specs.Text.{signing_error_text}

-- ---- When each fault is reported.

-- the only value of its type
abbrev pub prepare_error : PrepareError
prepare_error = record { reason = record {} }

-- a fault of reading
abbrev pub IsReadingFault : DenialFault → Type 0
IsReadingFault Read = Unit {0}
IsReadingFault (Line n) = Unit {0}
IsReadingFault (Unprepared e) = Unit {0}
IsReadingFault _ = ⊥

-- a fault that is only reported after all of the input has been read; memory may run out at any
-- time
abbrev pub IsAfterInput : DenialFault → Type 0
IsAfterInput Usage = ⊥
IsAfterInput Read = ⊥
IsAfterInput (Unprepared e) = ⊥
IsAfterInput OutOfMemory = ⊥
IsAfterInput _ = Unit {0}

-- if the octets of the input are known, none are left
abbrev pub IsReadToEnd : Option Octets → Option Octets → Type 0
IsReadToEnd old new = IfSome old (λ octets. new ≡ Some [])

-- `Usage` says that the arguments are no command; any other fault, except out of memory before the
-- records are read, says that they are one
abbrev pub TellsUsage : Tokens → DenialFault → Type 0
TellsUsage words Usage = IsNoCommand words
TellsUsage words (Unprepared e) = Unit {0}
TellsUsage words _ = IsCommand words

-- the exit status of the program
abbrev pub exit_status : DenialFault → ℕ
exit_status Usage = 2
exit_status _ = 1

-- a fault that is reported before anything is written; memory may also run out while writing
abbrev pub IsBeforeOutput : DenialFault → Type 0
IsBeforeOutput Write = ⊥
IsBeforeOutput OutOfMemory = ⊥
IsBeforeOutput _ = Unit {0}

-- a fault of the records that were read
abbrev pub IsOfRecords : DenialFault → Type 0
IsOfRecords MixedClasses = Unit {0}
IsOfRecords (Signing e) = Unit {0}
IsOfRecords Param = Unit {0}
IsOfRecords _ = ⊥

-- ---- What the program prints on standard error.

-- the text of each fault
abbrev pub fault_text : DenialFault → Octets
fault_text Usage =
    codes "usage: denial nsec APEX | denial nsec3 APEX ITERATIONS SALT [optout]"
    ++ codes " | denial check nsec APEX NAME TYPE | denial check nsec3 APEX NAME TYPE"
fault_text Read = codes "denial: cannot read input"
fault_text (Line n) = codes "denial: line " ++ decimal n ++ codes ": bad record"
fault_text (Unprepared e) = codes "denial: out of memory"
fault_text MixedClasses = codes "denial: more than one class"
fault_text (Signing e) = codes "denial: " ++ signing_error_text e
fault_text Param = codes "denial: no single NSEC3PARAM at the apex"
fault_text Write = codes "denial: cannot write output"
fault_text OutOfMemory = codes "denial: out of memory"
