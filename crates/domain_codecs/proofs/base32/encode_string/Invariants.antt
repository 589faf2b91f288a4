use Rattle.std.proofs.Common.{◌≡◌, ◌++◌, map, length, string_bytes}
use Rattle.domain_codecs.specs.Base32.{upper_digit, base32_upper}
use Rattle.domain_codecs.proofs.base32.encode_string.Given as goal

abbrev pub invariant-loop-part : goal.invariant-loop-part
invariant-loop-part l = string_bytes l.text ++ map upper_digit l.digits ≡ base32_upper l.octets

abbrev pub decreases-loop-part : goal.decreases-loop-part
decreases-loop-part l = length l.digits
