use Rattle.std.proofs.Common.{List, [], ap, ◌∙◌, subst, sym, vec_capacity}
use Rattle.std.specs.FinMap.{remove}
use Rattle.coco_types.specs.RowKey.{RowKey}
use Rattle.coco_rows.proofs.Listing.{dropped_whole, none_noted}
use Rattle.coco_rows.specs.Versions.{row_kind}
use Rattle.coco_shard.specs.Kept.{IsWhole}
use Rattle.coco_shard.proofs.Entries.{dropped_view}
use Rattle.coco_shard.proofs.ValueLemmas.{settle_stays}
use Rattle.coco_shard.proofs.table.drop_loaded.Goals as goal

pub returns-clause-whole : goal.returns-clause-whole
returns-clause-whole c =
    let Listed : List RowKey → Type 0 = λ ks. IsWhole c.settle.new.rows.entries ks (vec_capacity c.settle.new.listed) in
    let Left : List RowKey → Type 0 = λ ks. IsWhole c.drop_row.new.rows.entries ks (vec_capacity c.settle.new.listed) in
    let whole = subst Listed c.settle.ensures.none c.settle.ensures.whole in
    subst Left (sym c.settle.ensures.none)
    (dropped_whole row_kind c.settle.new.rows.entries c.drop_row.new.rows.entries [] (vec_capacity c.settle.new.listed) c.args.key whole (none_noted row_kind c.settle.new.rows.entries (vec_capacity c.settle.new.listed) whole c.args.key)
    c.drop_row.ensures.rising c.drop_row.ensures.entries c.drop_row.ensures.at c.drop_row.ensures.len)

pub returns-clause-state : goal.returns-clause-state
returns-clause-state c =
    dropped_view c.settle.new.rows.entries c.drop_row.new.rows.entries c.args.key c.drop_row.ensures.at
    ∙ ap (λ s. remove s c.args.key) (settle_stays c.args.rows.now.entries c.settle.new.rows.entries c.requires.settled c.settle.ensures.rows)
