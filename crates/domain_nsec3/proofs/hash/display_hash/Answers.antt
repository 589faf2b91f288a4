use Rattle.std.{proofs.{Common.{arith, sym, subst}, lemmas.Str.IsUtf8-from_ascii}, specs.Str.IsAscii}
use Rattle.domain_octets.proofs.WordLemmas.{octets_from_type}
use Rattle.domain_nsec3.proofs.OwnerLemmas.{ascii_text, text_length}
use Rattle.domain_nsec3.proofs.hash.display_hash.Goals as goal

pub write_hash-text-requires : goal.write_hash-text-requires
write_hash-text-requires g c = omega (arith, text_length c.args.hash.now, c.requires)

pub from_utf8_unchecked-requires : goal.from_utf8_unchecked-requires
from_utf8_unchecked-requires g c = IsUtf8-from_ascii _ (subst IsAscii (sym c.write_hash-text.ensures) (ascii_text _ (octets_from_type _ c.type_inv.hash)))
