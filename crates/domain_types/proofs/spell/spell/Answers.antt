use Rattle.std.proofs.Common.{inl, inr}
use Rattle.domain_types.proofs.SpellLemmas.{plain_field}
use Rattle.domain_types.proofs.spell.spell.Goals as goal

pub returns-in-LoweredName-clause-err : goal.returns-in-LoweredName-clause-err
returns-in-LoweredName-clause-err c = elim c.in-LoweredName.is [ inl low ↦ rw low c.spell_name.ensures.err | inr name ↦ rw name c.spell_name.ensures.err ]

pub returns-in-None : goal.returns-in-None
returns-in-None c = record {
  ok = tt;
  err = λ octets is. c.in-None.ensures.none octets
      (plain_field c.args.origin.now c.args.field c.args.text.now octets c.in_default.not-LoweredName c.in_default.not-Name is);
}
