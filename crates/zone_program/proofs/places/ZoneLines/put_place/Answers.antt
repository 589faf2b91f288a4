use Rattle.std.proofs.Common.{refl}
use Rattle.zone_program.proofs.PlaceLemmas.{put_place}
use Rattle.zone_program.proofs.places.ZoneLines.put_place.Goals as goal

pub returns : goal.returns
returns c = put_place c.args.self.now _ c.args.path.now c.args.line c.in_ok-file.file refl c.in_ok-file.ensures c.in_ok-push.ensures.items
