use Rattle.domain_checker.proofs.laws.chains_are_known.Goals as goal

pub returns : goal.returns
returns c = λ L a config links order chain. record {
  chain = chain;
  means = c.chains_mean_the_zone.ensures L a config links order chain;
  alike = c.types_ignore_case.ensures L a config.assume_dnskeys_will_be_added;
  contains = c.built_bitmaps_give_their_types.ensures.contains;
}
