use Rattle.std.proofs.Common.{ap, ◌∙◌, ◌++◌}
use Rattle.std.specs.Prelude.{string_bytes}
use Rattle.zone_program.specs.Lines.{zone_line}
use Rattle.zone_program.proofs.LineLemmas.{line_is}
use Rattle.zone_program.proofs.sink.put_line.Goals as goal

pub returns : goal.returns
returns c =
    let made = c.new.ensures ∙ (λ i.
    record {
      owner = c.as_parsed.ensures i;
      class = c.from_int-class.ensures i;
      ttl = c.from_secs-ttl.ensures i;
      «data» = c.in-Ok.ensures.fields i;
    }) in
    let same = ap
    (λ r. zone_line (record { owner = r.owner; class = r.class; ttl = r.ttl; rtype = r.«data».rtype; octets = r.«data».«data».now })) made in
    let r = c.new.result in
    c.in_ok-writeln.ensures.bytes
    ∙ ap (λ t. string_bytes c.args.text.now ++ t)
    (line_is (record { owner = r.owner; class = r.class; ttl = r.ttl; rtype = r.«data».rtype; octets = r.«data».«data».now }) ∙ same)
