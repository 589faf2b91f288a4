use Rattle.std.proofs.{Common.{map, ap, ◌∙◌}}
use Rattle.domain_types.specs.Reading.{token_text}
use Rattle.domain_zonefile.specs.Tokens.{piece_view}
use Rattle.domain_zonefile.proofs.TokenLemmas.{pieces_tokens}
use Rattle.domain_zonefile.proofs.token.Tokens.tokens.Goals as goal

pub returns : goal.returns
returns c =
    ap (map token_text) c.as_slice.ensures.value ∙ pieces_tokens c.self.inside.tokens.items c.self.inside.places.items c.self.invariant
    ∙ ap (map piece_view) c.self.view_is
