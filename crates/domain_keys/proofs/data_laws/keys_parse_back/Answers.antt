use Rattle.domain_keys.{specs.Keys.key_values, proofs.DataLemmas.parsed_back}
use Rattle.domain_keys.proofs.data_laws.keys_parse_back.Goals as goal

pub returns : goal.returns
returns g c = parsed_back (key_values c.args.value.now) c.fields-fields.ensures.fits c.fields-fields.ensures.limit
