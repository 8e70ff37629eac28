use Rattle.std.proofs.Common.{List, reverse, sym, subst}
use Rattle.coco_entry.specs.declared.prepared.Row.{Row}
use Rattle.coco_rebuild.proofs.Interleaving.{IsMerging, merging_more, merging_none}
use Rattle.coco_rebuild.proofs.merging.merged.Goals as goal

pub loop-row-init : goal.loop-row-init
loop-row-init c =
    let rows = c.args.rows.items in
    let others = c.args.others.items in
    record {
      merging = subst (λ (l : List Row). IsMerging rows others rows others (reverse l)) (sym c.new-merged.ensures.items) (merging_none rows others c.requires.rise.0 c.requires.rise.1);
      apart = c.requires.apart;
    }

pub loop-row-preserved : goal.loop-row-preserved
loop-row-preserved c =
    let rows = c.args.rows.items in
    let others = c.args.others.items in
    let rest = c.take_last.new.rows.items in
    let more = c.take_last.new.others.items in
    let went = merging_more rows others c.loop-row.rows.items c.loop-row.others.items rest more c.loop-row.merged.items c.in-Some.row c.loop-row.invariant.merging c.loop-row.invariant.apart c.in-Some.ensures in
    record { merging = subst (λ (l : List Row). IsMerging rows others rest more (reverse l)) (sym c.in_ok-push.ensures.items) went.0; apart = went.1 }
