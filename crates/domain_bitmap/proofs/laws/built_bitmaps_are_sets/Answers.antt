use Rattle.domain_bitmap.proofs.BitmapLemmas.{bitmap_octets-same, bitmap_octets-exact}
use Rattle.domain_bitmap.proofs.laws.built_bitmaps_are_sets.Goals as goal

pub returns : goal.returns
returns c = λ p q. (bitmap_octets-exact p q, bitmap_octets-same p q)
