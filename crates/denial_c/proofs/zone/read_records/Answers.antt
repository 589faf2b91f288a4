use Rattle.std.proofs.Common.{arith, subst, sym}
use Rattle.denial_c.{specs.Chains.EncodeRecords, proofs.AmongLemmas.{all_read, no_end, no_octets, rest_given}}
use Rattle.denial_c.proofs.zone.read_records.Goals as goal

pub unreachable-requires : goal.unreachable-requires
unreachable-requires c = no_end _ _ _ (rest_given c.requires.1 c.records.invariant) c.in_default.ensures.none

pub returns : goal.returns
returns c =
    let read = all_read _ _ _ (rest_given c.requires.1 c.records.invariant) (no_octets _ (omega (arith, c.records-test.false, c.remaining.ensures))) in
    subst (EncodeRecords c.args.class c.args.octets.now) (sym read) c.requires.1
