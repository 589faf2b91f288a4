use Rattle.std.proofs.Common.{sym, ◌∙◌}
use Rattle.domain_names.specs.Wire.{labels_of}
use Rattle.domain_types.proofs.SpellLemmas.{no_other_name}
use Rattle.domain_types.proofs.spell.place_name.Goals as goal

pub returns-in-None-clause-none : goal.returns-in-None-clause-none
returns-in-None-clause-none c = λ octets. no_other_name (labels_of c.args.origin.now) (labels_of c.args.name.now) c.args.text.now octets c.requires.other
    c.requires.text (sym c.ends_in_dot.ensures ∙ c.if-ends_in_dot.false) c.in-None.ensures.none
