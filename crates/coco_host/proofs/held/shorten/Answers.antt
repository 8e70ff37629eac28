use Rattle.std.proofs.Common.{refl}
use Rattle.coco_host.proofs.Places.{is_place, nowhere, shortens_set, shortens_nowhere}
use Rattle.coco_host.proofs.held.shorten.Goals as goal

pub returns-then-place-files : goal.returns-then-place-files
returns-then-place-files c = shortens_nowhere c.args.number c.args.len c.args.files.now (nowhere c.args.number c.args.files.now c.place_of-place.result c.place_of-place.ensures c.if-place-files.true)

pub returns : goal.returns
returns c =
    let at = is_place c.args.number c.args.files.now c.place_of-place.result c.place_of-place.ensures c.if-place-files.false in
    shortens_set c.args.number c.args.len c.args.files.now c.place_of-place.result _ c.index-files-place.result refl c.truncate.ensures.items refl at
