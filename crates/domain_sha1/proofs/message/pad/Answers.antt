use Rattle.std.proofs.Common.{[], ◌++◌, ◌+◌, ◌≡◌, ◌∙◌, arith, refl, length, length-append}
use Rattle.domain_sha1.proofs.MessageLemmas.{closed}
use Rattle.domain_sha1.proofs.message.pad.Goals as goal

pub returns : goal.returns
returns c =
    let octets = c.args.octets.now in
    let salt = c.args.salt.now in
    let none : 0 + length octets ≡ length octets = omega arith in
    let one = rw none at (c.put.ensures [] refl refl) in
    let two = c.put-2.ensures octets refl one in
    let three = c.put-3.ensures (octets ++ salt) (length-append octets salt) two in
    let bits = c.copy_from_slice.ensures.after ∙ c.to_be_bytes.ensures in
    closed (octets ++ salt) _ _ (length octets + length salt) (length-append octets salt) c.requires three bits
