use Rattle.std.proofs.Common.{◌∷◌, [], false}
use Rattle.domain_generate.specs.{Generated.fields_text, Patterns.substituted}
use Rattle.domain_generate.proofs.GenerateLemmas.{line_of}
use Rattle.domain_generate.proofs.generation.Generation.push_line.Goals as goal

pub returns : goal.returns
returns c =
    let g = c.self.inside in
    let owner = substituted false c.args.value g.owner.now in
    let pattern = substituted g.pattern.is_quoted c.args.value g.pattern.octets.now in
    let line = line_of c.args.line.now.items c.push_substituted.new.line.items c.push_fields.new.line.items c.push_substituted-2.new.line.items
    c.push.new.self.items owner (fields_text g.prefix g.rtype.now) pattern (10 ∷ []) c.in_ok-push_substituted.ensures c.in_ok-push_fields.ensures
    c.in_ok-push_substituted-2.ensures c.in_ok-push.ensures.items in
    rw (← c.self.view_is) line
