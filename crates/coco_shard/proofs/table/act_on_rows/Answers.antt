use Rattle.std.proofs.Common.{◌≡◌, ◌∙◌, ◌||◌, ap, sym, Some, vec_capacity, rules}
use Rattle.std.specs.BTreeMap.{is_at}
use Rattle.std.specs.Map.{set_value}
use Rattle.coco_types.specs.RowKey.{key_cmp}
use Rattle.coco_rows.proofs.Listing.{changed_whole}
use Rattle.coco_rows.specs.Versions.{row_kind}
use Rattle.coco_shard.specs.Kept.{kept_at, view_of}
use Rattle.coco_shard.specs.Table.{key_of}
use Rattle.coco_shard.proofs.Entries.{acted_answer, acted_view, acts_roomless}
use Rattle.coco_shard.proofs.table.act_on_rows.Goals as goal

pub returns-clause-whole : goal.returns-clause-whole
returns-clause-whole c =
    let put : (c.get_mut.follows.lender c.touch.new.row).entries ≡ set_value (is_at (key_cmp c.key-key.result)) c.args.rows.now.entries c.touch.new.row = search rules in
    changed_whole row_kind c.args.rows.now.entries (c.get_mut.follows.lender c.touch.new.row).entries c.args.touched.now.items c.list_key.new.listed.items (vec_capacity c.args.touched.now) (vec_capacity c.list_key.new.listed)
    c.key-key.result c.in-Some.row.now c.touch.new.row c.touch.result
    c.requires (sym c.in-Some.ensures.value) c.touch.ensures.sound (c.touch.ensures.touched ∙ ap (λ b. b || c.touch.result) c.is_touched-was.ensures) (λ h. sym c.is_touched-was.ensures ∙ c.touch.ensures.once h) c.list_key.ensures.capacity put c.list_key.ensures.items

pub returns-clause-acts : goal.returns-clause-acts
returns-clause-acts c =
    let put : (c.get_mut.follows.lender c.touch.new.row).entries ≡ set_value (is_at (key_cmp c.key-key.result)) c.args.rows.now.entries c.touch.new.row = search rules in
    let was : kept_at c.args.rows.now.entries (key_of c.args.ask.now.op) ≡ Some c.in-Some.row.now = ap (kept_at c.args.rows.now.entries) (sym c.key-key.ensures) ∙ sym c.in-Some.ensures.value in
    record {
      answer = acted_answer c.args.rows.now.entries c.args.ask.now c.act-left.new.answer c.in-Some.row.now c.act-left.new.row was c.act-left.ensures;
      state = ap view_of put ∙ rw c.key-key.ensures (acted_view c.args.rows.now.entries c.args.ask.now c.act-left.new.answer c.in-Some.row.now c.touch.new.row c.act-left.new.row was c.touch.ensures.state c.act-left.ensures);
      err = tt;
      missing = tt;
      makes = tt;
    }

pub returns-in_err-room-clause-acts : goal.returns-in_err-room-clause-acts
returns-in_err-room-clause-acts c = acts_roomless c.args.rows.now.entries c.args.ask.now c.args.answer.now c.from_residual.result c.from_residual.ensures.0 c.in_err-room.ensures.lock
