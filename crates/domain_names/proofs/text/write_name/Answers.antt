use Rattle.domain_names.proofs.TextLemmas.{ascii_within}
use Rattle.domain_names.proofs.text.write_name.Goals as goal

pub from_utf8_unchecked-requires : goal.from_utf8_unchecked-requires
from_utf8_unchecked-requires g c = ascii_within c.in-Some.text.now _ 1 c.in-Some.ensures.ascii
