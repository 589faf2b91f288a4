use Rattle.std.proofs.Common.{ap, ◌∙◌}
use Rattle.domain_zonefile.specs.Tokens.{has_no_token}
use Rattle.domain_zonefile.proofs.TokenLemmas.{pieces_empty}
use Rattle.domain_zonefile.proofs.token.Tokens.is_empty.Goals as goal

pub returns : goal.returns
returns c =
    c.is_empty.ensures ∙ pieces_empty c.self.inside.tokens c.self.inside.places.items c.self.invariant ∙ ap has_no_token c.self.view_is
