use Rattle.std.proofs.Common.{map, subst, None}
use Rattle.domain_types.specs.Reading.{token_text}
use Rattle.domain_zonefile.specs.Records.{HasOwner}
use Rattle.domain_zonefile.proofs.LineLemmas.{last_owner}
use Rattle.domain_zonefile.proofs.state.ZoneState.owner_of.Goals as goal

pub returns-clause-ok : goal.returns-clause-ok
returns-clause-ok c =
    subst (λ s. HasOwner s c.args.is_indented (map token_text c.args.tokens.now) None) c.self.view_is
    (last_owner _ c.args.is_indented _ c.if-not-is_indented.false c.if-is_none.ensures)
