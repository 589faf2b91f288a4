use Rattle.domain_names.proofs.WireLemmas.{length-wire}
use Rattle.domain_types.proofs.spell.join.Goals as goal

pub slice_bounds-labels-count : goal.slice_bounds-labels-count
slice_bounds-labels-count c = length-wire c.args.own.now c.requires.own
