use Rattle.std.proofs.Common.{◌≡◌, Bool, false, List, ◌++◌, length, sym, ap, ◌∙◌}
use Rattle.std.proofs.Math.ListN.{take, drop}
use Rattle.std.proofs.lemmas.List.{length-set}
use Rattle.coco_copy.specs.CopyState.{CopyState}
use Rattle.coco_shard.specs.RowState.{ShardState}
use Rattle.coco_standing.specs.Standing.{TablesStand}
use Rattle.coco_finish.specs.Finishing.{is_behind}
use Rattle.coco_finish.proofs.TableLemmas.{back, stand_of}
use Rattle.coco_finish.proofs.tables.catch_up.Goals as goal

pub returns-clause-map : goal.returns-clause-map
returns-clause-map c = λ m stand.
    let t = c.args.tables.now in
    let shards : List ShardState = c.promote_and_mark.new.shards in
    let copies : List CopyState = c.promote_and_mark.new.copies in
    let marks : List Bool = c.promote_and_mark.new.behind in
    let made : TablesStand t.layout m (is_behind marks) shards copies =
    c.promote_and_mark.ensures.map m (stand_of t.layout m t.behind.items c.as_mut_slice-3.result.now t.shards.items c.as_mut_slice.result.now t.copies.items c.as_mut_slice-2.result.now
    (sym c.as_mut_slice-3.ensures.value) (sym c.as_mut_slice.ensures.value) (sym c.as_mut_slice-2.ensures.value) stand) in
    let s : take t.shards.len (shards ++ drop (length shards) t.shards.items) ≡ shards =
    back shards t.shards.items t.shards.len (sym c.as_mut_slice.ensures.len ∙ ap length c.as_mut_slice.ensures.value) (c.promote_and_mark.ensures.counted.shard_count ∙ sym c.requires.whole.shard_count) in
    let p : take t.copies.len (copies ++ drop (length copies) t.copies.items) ≡ copies =
    back copies t.copies.items t.copies.len (sym c.as_mut_slice-2.ensures.len ∙ ap length c.as_mut_slice-2.ensures.value) (c.promote_and_mark.ensures.counted.copy_count ∙ sym c.requires.whole.copy_count) in
    let b : take t.behind.len (marks ++ drop (length marks) t.behind.items) ≡ marks =
    back marks t.behind.items t.behind.len (sym c.as_mut_slice-3.ensures.len ∙ ap length c.as_mut_slice-3.ensures.value)
    (ap length c.promote_and_mark.ensures.behind ∙ length-set c.as_mut_slice-3.result.now c.args.node false ∙ ap length c.as_mut_slice-3.ensures.value) in
    stand_of t.layout m marks _ shards _ copies _ (sym b) (sym s) (sym p) made
