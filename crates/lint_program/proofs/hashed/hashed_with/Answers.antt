use Rattle.std.proofs.Common.{inr}
use Rattle.lint_program.proofs.HashedLemmas.{config_usual, hashed_well, none_told}
use Rattle.domain_nsec3.specs.View.{config_of}
use Rattle.lint_program.proofs.hashed.hashed_with.Goals as goal

pub returns-in-Ok-clause-fault : goal.returns-in-Ok-clause-fault
returns-in-Ok-clause-fault g c = λ given sorts.
    let answers = g.H.Nsec3Hasher.answer c.args.hasher.now in
    let config = c.new-config.ensures in
    let usual = config_usual answers c.new-config.result c.args.parameters config.params config.excludes config.dnskeys config.dnames in
    rw c.none.ensures.fault
    (inr (hashed_well answers given c.args.sorted.now c.args.apex.now c.args.parameters sorts c.requires.one_class (config_of answers c.new-config.result) usual
    (rw c.new_from_owned-records.ensures at c.in-Ok.ensures.faultless)))

pub returns-in-Ok-clause-alike : goal.returns-in-Ok-clause-alike
returns-in-Ok-clause-alike g c = λ given sorts.
    let answers = g.H.Nsec3Hasher.answer c.args.hasher.now in
    let config = c.new-config.ensures in
    let usual = config_usual answers c.new-config.result c.args.parameters config.params config.excludes config.dnskeys config.dnames in
    rw c.none.ensures.pairs
    (none_told answers given c.args.sorted.now c.args.apex.now c.args.parameters sorts c.requires.one_class (config_of answers c.new-config.result) usual
    (rw c.new_from_owned-records.ensures at c.in-Ok.ensures.faultless))
