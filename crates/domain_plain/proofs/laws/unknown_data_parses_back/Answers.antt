use Rattle.domain_plain.proofs.PlainLemmas.{short_data_back}
use Rattle.domain_plain.proofs.laws.unknown_data_parses_back.Goals as goal

pub returns : goal.returns
returns g c = short_data_back (g.O.Octets.octets c.args.value.now.«data») c.fields-fields.ensures.fits c.fields-fields.ensures.limit
