use Rattle.std.proofs.{Common.{map, ap, ◌∙◌}}
use Rattle.domain_zonefile.specs.Entries.{Piece}
use Rattle.domain_zonefile.proofs.TokenLemmas.{pieces_places}
use Rattle.domain_zonefile.proofs.token.Tokens.places.Goals as goal

pub returns : goal.returns
returns c =
    c.as_slice.ensures.value ∙ pieces_places c.self.inside.tokens.items c.self.inside.places.items c.self.invariant
    ∙ ap (map (λ (p : Piece). p.at)) c.self.view_is
