use Rattle.std.{proofs.{Common.{◌≡◌, ◌∙◌, length, ap, sym}}, specs.List.refill}
use Rattle.domain_octets.specs.Octets.{refilled}
use Rattle.domain_names.proofs.TextLemmas.{named_fits}
use Rattle.domain_names.proofs.text.read_plain_name.Goals as goal

pub returns : goal.returns
returns c =
    let old = c.append_slice-2.new.self in
    let octets = c.put_lengths.new.octets in
    let written : refill (length old) old octets ≡ octets =
    refilled (length old) old octets (sym (c.put_lengths.ensures.size ∙ ap length c.as_mut_slice.ensures.value)) in
    named_fits _ _ _ _ (rw written c.in_ok-put_lengths.ensures.labels) c.push_root.ensures.room.0 c.push_root.ensures.root
