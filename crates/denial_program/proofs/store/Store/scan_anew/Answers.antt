use Rattle.std.proofs.Common.{[], None, inr, refl}
use Rattle.domain_base.proofs.TextLemmas.{no_token}
use Rattle.domain_names.specs.Text.{NameTextFault}
use Rattle.denial_program.proofs.store.Store.scan_anew.Goals as goal

pub returns-in_default-clause-err : goal.returns-in_default-clause-err
returns-in_default-clause-err g c = inr ([], no_token (NameTextFault None) _ [] c.in_default.ensures refl)

pub returns-in-Err-clause-err : goal.returns-in-Err-clause-err
returns-in-Err-clause-err g c = inr (_, c.in-Err.ensures.err)
