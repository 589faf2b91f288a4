use Rattle.std.proofs.Common.{[], None, refl, subst}
use Rattle.domain_zonefile.specs.{Files.ReadsItem, Places.place_in, Records.record_with, Tokens.token_place}
use Rattle.domain_zonefile.proofs.FileLemmas.{reads_none, reads_record}
use Rattle.domain_includes.specs.Files.{record_at}
use Rattle.domain_includes.proofs.step.next_step.Goals as goal

pub returns-in-Ok-None-clause-ok : goal.returns-in-Ok-None-clause-ok
returns-in-Ok-None-clause-ok g c =
    let read = rw (c.in-Ok-None.field-0-is, c.clear.ensures.items) at c.in-Ok-None.ensures.found in (
      subst (λ d. ReadsItem c.args.reader.now.state c.args.reader.now.left [] None c.next_item.new.self.state
          c.next_item.new.self.tokens c.next_item.new.self.left d)
          (reads_none _ _ _ _ _ _ _ read) read,
      refl,
    )

pub take_record-requires-clause-fits : goal.take_record-requires-clause-fits
take_record-requires-clause-fits g c =
    let read = rw (c.in-Ok-Some.field-0-is, c.in-Record.is, c.clear.ensures.items) at c.in-Ok-Some.ensures.found in
    let own = reads_record _ _ _ c.in-Record.fields _ _ _ _ read in
    rw (c.as_slice.ensures.value, own.joined) own.fits

pub take_record-requires-clause-owned : goal.take_record-requires-clause-owned
take_record-requires-clause-owned g c =
    let read = rw (c.in-Ok-Some.field-0-is, c.in-Record.is, c.clear.ensures.items) at c.in-Ok-Some.ensures.found in
    let own = reads_record _ _ _ c.in-Record.fields _ _ _ _ read in
    (own.owner, rw (c.state.ensures, c.place_of_token-place.ensures.same) own.owner_is)

pub returns-in-Ok-clause-ok : goal.returns-in-Ok-clause-ok
returns-in-Ok-clause-ok g c =
    let read = rw (c.in-Ok-Some.field-0-is, c.in-Record.is, c.clear.ensures.items) at c.in-Ok-Some.ensures.found in
    let put = rw (
      c.as_slice.ensures.value,
      c.state.ensures,
      c.place_of_token-place.ensures.place,
      c.place_of_token-place.ensures.same,
      c.next_item.ensures.file,
    ) at c.in-Ok.ensures in
    rw c.place_of_token-place.ensures.same (
      record_at c.args.path.now (place_in c.args.reader.now.file (token_place c.next_item.new.self.tokens 0))
          (record_with put.0 c.in-Record.fields c.next_item.new.data.items),
      record {
        fields = c.in-Record.fields;
        owner = put.0;
        octets = c.next_item.new.data.items;
        pieces = c.next_item.new.self.tokens;
        reads = read;
        owner_is = put.1;
        is = refl;
      },
      put.2,
    )
