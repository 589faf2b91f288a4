use Rattle.std.proofs.Common.{rules}
use Rattle.domain_names.proofs.TextLemmas.{IsLabelsWire, named_fits}
use Rattle.domain_names.proofs.text.read_name.Goals as goal

pub returns-clause-name : goal.returns-clause-name
returns-clause-name c =
    let read : IsLabelsWire c.args.text.now c.read_labels.new.wire = search rules in
    named_fits _ _ _ _ read c.push_root-2.ensures.room.0 c.push_root-2.ensures.root
