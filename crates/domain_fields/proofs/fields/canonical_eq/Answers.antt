use Rattle.domain_fields.proofs.LayoutLemmas.{equal_values}
use Rattle.domain_fields.proofs.fields.canonical_eq.Goals as goal

pub returns-clause-values : goal.returns-clause-values
returns-clause-values g c split =
    equal_values g.F.Fields.layout (g.F.Fields.values c.args.fields.now) (g.F.Fields.values c.args.other.now) _ _ c.order.ensures c.is_eq.ensures
    split c.fits.ensures c.fits-2.ensures
