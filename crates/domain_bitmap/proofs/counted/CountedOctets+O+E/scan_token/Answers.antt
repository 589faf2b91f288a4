use Rattle.domain_bitmap.proofs.TextLemmas.{refused_by_codec, refused_too_long}
use Rattle.domain_bitmap.proofs.counted.CountedOctets+O+E.scan_token.Goals as goal

pub returns-in-Err-clause-read : goal.returns-in-Err-clause-read
returns-in-Err-clause-read g c = record { ok = tt; err = refused_by_codec _ _ _ _ _ _ c.in-Err.ensures.read.err }

pub returns-clause-read : goal.returns-clause-read
returns-clause-read g c = record {
  ok = tt;
  err = refused_too_long _ _ _ _ _ _ _ _ c.in-Ok.is c.in-Ok.ensures.read.ok c.convert_token.ensures.room c.in-Err-from_octets.ensures.ok.1;
}
