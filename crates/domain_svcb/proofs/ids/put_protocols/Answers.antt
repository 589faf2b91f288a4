use Rattle.std.proofs.Common.{arith, ℕ, List, [], ◌≡◌, Some, false, sym, ap, ◌∙◌, subst}
use Rattle.std.proofs.lemmas.Grind.{common_steps}
use Rattle.domain_svcb.specs.{Strings.{StringText, SpellsNothing}, Values.{ids_from, ProtocolsText}}
use Rattle.domain_svcb.specs.declared.fault.SpellFault.{SpellFault}
use Rattle.domain_svcb.proofs.{FaultLemmas.nothing_from, StringLemmas.one_string}
use Rattle.domain_svcb.proofs.ids.put_protocols.Goals as goal

no_protocols : (text string : List ℕ) → StringText text string → ((ids : List ℕ) → ids_from [] false string ≡ Some ids → ⊥)
    → (ids : List ℕ) → ProtocolsText text ids → ⊥
no_protocols text string is none ids has =
    none ids (ap (ids_from [] false) (one_string text string has.0 is has.1) ∙ has.2)

protocols_refused : (text string read : List ℕ) (fault : SpellFault) → StringText text read → string ≡ read
    → SpellsNothing (λ (ids : List ℕ). ids_from [] false string ≡ Some ids) fault → SpellsNothing (ProtocolsText text) fault
protocols_refused text string read fault is same none =
    nothing_from (λ (ids : List ℕ). ids_from [] false string ≡ Some ids) (ProtocolsText text) fault
    (no_protocols text string (subst (StringText text) (sym same) is)) none

pub returns-clause-err : goal.returns-clause-err
returns-clause-err c =
    protocols_refused c.args.text.now _ _ c.in-Err-put_ids.fault c.in_default.ensures.ok.1 (grind (arith, common_steps)) c.in-Err-put_ids.ensures.err
