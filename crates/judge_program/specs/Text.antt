-- The printed form of an answer about a name, and of a fault.
use Rattle.std.specs.Prelude.{ℕ, ◌++◌, codes}
use Rattle.domain_octets.specs.Octets.{Octets}
use Rattle.domain_names.specs.{Text.name_text, Name.{Name, last_labels}}
use Rattle.domain_answer.specs.{ZoneAnswer.wildcard_below, declared.answer.Answer.Answer}
use Rattle.domain_answer.specs.declared.answer.Answer.TheVariants as answers
use Rattle.denial_program.specs.{Fault.fault_text, declared.fault.DenialFault.{DenialFault, TheVariants.Usage}}
use Rattle.judge_program.specs.declared.shown.Shown.{Shown}
use Rattle.judge_program.specs.declared.shown.Shown.TheVariants as shows

-- a name with its last dot
abbrev pub full_text : Name → Octets
full_text name = name_text name ++ codes "."

-- the last `count` labels of a name
abbrev pub last_text : Name → ℕ → Octets
last_text name count = full_text (last_labels count name)

-- the wildcard below the last `count` labels of a name
abbrev pub wildcard_text : Name → ℕ → Octets
wildcard_text name count = full_text (wildcard_below (last_labels count name))

-- the line about a name that does not exist: its closest encloser has `count` labels, and `told` is
-- said of the wildcard below it
abbrev pub missing_text : Octets → Name → ℕ → Octets → Octets
missing_text kind name count told =
    kind ++ codes ": closest encloser " ++ last_text name count ++ codes "; wildcard "
    ++ wildcard_text name count ++ codes " " ++ told

-- the printed form of an answer about a name
abbrev pub answer_text : Name → Answer → Octets
answer_text name answers.OutsideZone = codes "outside the zone"
answer_text name answers.AtParent = codes "at the parent: DS of the apex"
answer_text name (answers.Referral count) = codes "referral: zone cut " ++ last_text name count
answer_text name (answers.Redirected count) = codes "redirected: DNAME at " ++ last_text name count
answer_text name answers.Has = codes "data exists"
answer_text name answers.NoDs = codes "no DS: unsigned delegation at " ++ full_text name
answer_text name answers.Alias = codes "alias: CNAME at " ++ full_text name
answer_text name answers.NxName = codes "no such name: NXNAME at " ++ full_text name
answer_text name answers.NoData = codes "no data"
answer_text name (answers.Wildcard count) =
    missing_text (codes "wildcard") name count (codes "answers")
answer_text name (answers.WildcardAlias count) =
    missing_text (codes "wildcard alias") name count (codes "owns a CNAME record")
answer_text name (answers.WildcardNoData count) =
    missing_text (codes "wildcard no data") name count (codes "has no such type")
answer_text name (answers.NameError count) =
    missing_text (codes "name error") name count (codes "does not exist")
answer_text name (answers.MayBeUnsigned count) =
    codes "may be unsigned: opt-out; closest encloser " ++ last_text name count
answer_text name (answers.NoCloserName count) =
    missing_text (codes "no closer name") name count (codes "is not shown")
answer_text name answers.TooManyIterations = codes "too many iterations"
answer_text name answers.NotProven = codes "not proven"

-- the line of an answer, as a comment if the records with which a server answers follow
abbrev pub first_line : Shown → Name → Answer → Octets
first_line shows.Records name answer = codes "; " ++ answer_text name answer ++ codes "\n"
first_line _ name answer = answer_text name answer ++ codes "\n"

-- the printed form of a fault
abbrev pub judge_fault_text : DenialFault → Octets
judge_fault_text Usage =
    codes "usage: denial judge nsec APEX NAME TYPE [--why | --records] | denial judge nsec3 APEX "
    ++ codes "NAME TYPE [--labels N] [--limit ITERATIONS] [--why | --records]"
judge_fault_text fault = fault_text fault
