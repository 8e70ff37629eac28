use Rattle.std.proofs.Common.{[], sym, ◌∙◌}
use Rattle.coco_host.proofs.Places.{held_at, held_nowhere, is_place, nowhere}
use Rattle.coco_host.proofs.held.bytes_of.Goals as goal

pub returns-then-place-files : goal.returns-then-place-files
returns-then-place-files c =
    let at = is_place c.args.number c.args.files.now c.place_of-place.result c.place_of-place.ensures c.if-place-files.true in
    c.as_slice.ensures.value ∙ sym (held_at (λ f. f.bytes.items) [] c.args.number c.args.files.now c.place_of-place.result c.index-files-place.result at)

pub returns-else-place-files : goal.returns-else-place-files
returns-else-place-files c = sym (held_nowhere (λ f. f.bytes.items) [] c.args.number c.args.files.now (nowhere c.args.number c.args.files.now c.place_of-place.result c.place_of-place.ensures c.if-place-files.false))
