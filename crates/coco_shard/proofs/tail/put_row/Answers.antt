use Rattle.std.proofs.Common.{◌≡◌, ◌∙◌, ◌||◌, ap, sym, vec_capacity, rules}
use Rattle.std.specs.BTreeMap.{is_at}
use Rattle.std.specs.Map.{set_value}
use Rattle.coco_types.specs.RowKey.{key_cmp}
use Rattle.coco_rows.proofs.Listing.{changed_whole}
use Rattle.coco_rows.specs.Versions.{row_kind}
use Rattle.coco_shard.specs.Kept.{view_of}
use Rattle.coco_shard.specs.Table.{installed}
use Rattle.coco_shard.proofs.Entries.{changed_view}
use Rattle.coco_shard.proofs.tail.put_row.Goals as goal

pub returns-clause-whole : goal.returns-clause-whole
returns-clause-whole c =
    let put : (c.get_mut.follows.lender c.touch.new.row).entries ≡ set_value (is_at (key_cmp c.args.key)) c.args.rows.now.entries c.touch.new.row = search rules in
    changed_whole row_kind c.args.rows.now.entries (c.get_mut.follows.lender c.touch.new.row).entries c.args.touched.now.items c.list_key.new.listed.items (vec_capacity c.args.touched.now) (vec_capacity c.list_key.new.listed)
    c.args.key c.in-Some.row.now c.touch.new.row c.touch.result
    c.requires (sym c.in-Some.ensures.value) c.touch.ensures.sound (c.touch.ensures.touched ∙ ap (λ b. b || c.touch.result) c.is_touched-was.ensures) (λ h. sym c.is_touched-was.ensures ∙ c.touch.ensures.once h) c.list_key.ensures.capacity put c.list_key.ensures.items

pub returns-clause-changes : goal.returns-clause-changes
returns-clause-changes c =
    let put : (c.get_mut.follows.lender c.touch.new.row).entries ≡ set_value (is_at (key_cmp c.args.key)) c.args.rows.now.entries c.touch.new.row = search rules in
    record {
      ok = ap view_of put ∙ changed_view c.args.rows.now.entries c.args.key c.in-Some.row.now c.touch.new.row (installed c.args.time c.args.value.now) (sym c.in-Some.ensures.value) (c.touch.ensures.state ∙ c.put.ensures.row);
      err = tt;
    }
