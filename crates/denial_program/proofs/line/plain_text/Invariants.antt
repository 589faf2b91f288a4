use Rattle.std.{proofs.Common.{◌≡◌, take}, specs.List.list_all}
use Rattle.denial_program.specs.Listing.{is_plain}
use Rattle.denial_program.proofs.line.plain_text.Given as goal

abbrev pub invariant-loop-octet : goal.invariant-loop-octet
invariant-loop-octet l = l.is_plain ≡ list_all is_plain (take l.octet-index l.line)
