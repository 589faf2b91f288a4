use Rattle.std.proofs.Common.{ap, ◌∙◌, ◌++◌, ◌∷◌, []}
use Rattle.std.specs.Prelude.{if◌then◌else◌}
use Rattle.domain_types.specs.declared.token.Token.{Token}
use Rattle.domain_zonefile.specs.Tokens.{pieces_of}
use Rattle.domain_zonefile.proofs.TokenLemmas.{pieces_push, is_ok_there}
use Rattle.domain_zonefile.proofs.token.Tokens.push.Goals as goal

pub returns-clause-ok : goal.returns-clause-ok
returns-clause-ok c =
    let tokens = c.self.inside.tokens.items in
    let token : Token = record { octets = c.args.octets; is_quoted = c.args.is_quoted } in
    let more = pieces_push tokens c.self.inside.places.items token c.args.at c.self.invariant in
    let pushed = c.push-2.ensures.items ∙ ap (λ b. if b then tokens ++ token ∷ [] else tokens) (is_ok_there c.push-2.result c.if-is_err.ensures.value) in
    ap (λ ts. pieces_of ts c.push.new.self.items) pushed ∙ ap (pieces_of (tokens ++ token ∷ [])) c.in_ok-push.ensures.items ∙ more
    ∙ ap (λ ps. ps ++ record { at = c.args.at; octets = c.args.octets.now; is_quoted = c.args.is_quoted } ∷ []) c.self.view_is
