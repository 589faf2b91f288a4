use Rattle.domain_checker.proofs.laws.hashed_chains_are_known.Goals as goal

pub returns : goal.returns
returns c = λ L a config links chain. record {
  chain = chain;
  means = c.chains_mean_the_zone.ensures L a config links chain;
  exist = c.names_exist.ensures.existing L a config;
  left_out = c.names_end_at_the_encloser.ensures.excluded L a config;
  alike = c.types_ignore_case.ensures L a config;
  reads_back = c.base32_reads_back.ensures;
  contains = c.built_bitmaps_give_their_types.ensures.contains;
  gives = c.built_bitmaps_give_their_types.ensures.gives;
  tells_apart = c.base32_tells_apart.ensures.lower;
}
