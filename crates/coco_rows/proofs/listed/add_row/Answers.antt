use Rattle.std.proofs.Common.{◌≡◌, ◌+◌, ◌≤◌, cond, ap, ◌∙◌, refl, vec_capacity, length, arith}
use Rattle.std.specs.Option.{is_some}
use Rattle.coco_rows.proofs.Listing.{added_whole, whole_kept, with_key}
use Rattle.coco_rows.proofs.listed.add_row.Goals as goal

pub returns-in_err-insert-clause-whole : goal.returns-in_err-insert-clause-whole
returns-in_err-insert-clause-whole g c =
    whole_kept g.R.EpochRow.kind c.args.rows.now.entries c.insert.new.self.entries c.args.listed.now.items c.make_room.new.listed.items (vec_capacity c.args.listed.now) (vec_capacity c.make_room.new.listed) c.requires.whole
    c.in_err-insert.ensures.err c.make_room.ensures.items c.make_room.ensures.capacity

pub returns-clause-whole : goal.returns-clause-whole
returns-clause-whole g c =
    let more : length c.insert.new.self.entries ≡ length c.args.rows.now.entries + 1 =
    c.in_ok-insert.ensures.len ∙ ap (λ o. length c.args.rows.now.entries + cond (is_some o) 0 1) (c.in_ok-insert.ensures.old ∙ c.requires.missing) in
    let enough : length c.args.rows.now.entries + 1 ≤ vec_capacity c.make_room.new.listed = rw (← c.len.ensures.len) c.in_ok-make_room.ensures.ok in
    whole_kept g.R.EpochRow.kind c.insert.new.self.entries c.insert.new.self.entries (with_key (g.R.EpochRow.kind.is_noted c.args.row) c.make_room.new.listed.items c.args.key) c.list_key.new.listed.items (vec_capacity c.make_room.new.listed) (vec_capacity c.list_key.new.listed)
    (added_whole g.R.EpochRow.kind c.args.rows.now.entries c.make_room.new.listed.items (vec_capacity c.args.listed.now) (vec_capacity c.make_room.new.listed) c.args.key c.args.row c.insert.new.self.entries
    (whole_kept g.R.EpochRow.kind c.args.rows.now.entries c.args.rows.now.entries c.args.listed.now.items c.make_room.new.listed.items (vec_capacity c.args.listed.now) (vec_capacity c.args.listed.now) c.requires.whole refl c.make_room.ensures.items (omega arith))
    c.requires.missing c.requires.sound c.insert.ensures.ordered c.in_ok-insert.ensures.entries c.in_ok-insert.ensures.updates.0 more enough)
    refl (c.list_key.ensures.items ∙ ap (λ b. with_key b c.make_room.new.listed.items c.args.key) c.is_noted-noted.ensures) c.list_key.ensures.capacity
