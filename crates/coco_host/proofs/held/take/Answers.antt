use Rattle.std.proofs.Common.{◌≡◌, ◌≤◌, [], List, ℕ, length, refl, sym, subst}
use Rattle.coco_host.specs.Files.{put}
use Rattle.coco_host.proofs.Places.{held_at, is_place, same_set, takes_set, at_err}
use Rattle.coco_host.proofs.held.take.Goals as goal

pub put_bytes-requires : goal.put_bytes-requires
put_bytes-requires c =
    let asked = c.requires.at in
    let at = is_place asked.0 c.args.files.now c.args.place asked.1 c.requires.within in
    subst (λ (l : List ℕ). c.args.at ≤ length l) (held_at (λ x. x.bytes.items) [] asked.0 c.args.files.now c.args.place c.index-files-place.result at) asked.2

pub returns-in_err-put_bytes-clause-err : goal.returns-in_err-put_bytes-clause-err
returns-in_err-put_bytes-clause-err c =
    let asked = c.requires.at in
    let at = is_place asked.0 c.args.files.now c.args.place asked.1 c.requires.within in
    at_err c.from_residual.result (same_set asked.0 c.args.files.now c.args.place _ c.index-files-place.result refl c.in_err-put_bytes.ensures.err refl at)

pub returns-clause-ok : goal.returns-clause-ok
returns-clause-ok c number is =
    let at = is_place number c.args.files.now c.args.place is c.requires.within in
    takes_set number _ c.args.files.now c.args.place _ c.index-files-place.result refl (subst (λ (l : List ℕ). c.put_bytes.new.file.items ≡ put c.args.at c.args.bytes.now l) (sym (held_at (λ x. x.bytes.items) [] number c.args.files.now c.args.place c.index-files-place.result at)) c.in_ok-put_bytes.ensures.ok) refl at
