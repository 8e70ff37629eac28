use Rattle.std.proofs.Common.{◌++◌, List, ap, ◌∙◌, ◌-◌}
use Rattle.coco_types.specs.declared.call.Piece.{Piece}
use Rattle.coco_pieces.specs.Pieces.{pieces_from}
use Rattle.coco_pieces.proofs.PieceLemmas.{pieces_begin, pieces_grow}
use Rattle.coco_pieces.proofs.pieces.add_pieces.Goals as goal

pub loop-partition-init : goal.loop-partition-init
loop-partition-init c =
    let found = c.next_partition-partition.ensures in
    record {
      pieces = ap (λ (ps : List Piece). c.args.pieces.now ++ ps) (pieces_begin c.args.count c.args.place c.args.time c.args.writes.now c.next_partition-partition.result found.most found.skips);
      within = found.most;
      there = found.there;
    }

pub loop-partition-preserved : goal.loop-partition-preserved
loop-partition-preserved c =
    let before = c.loop-partition.invariant in
    let found = c.next_partition-partition-in-loop-partition.ensures in
    let next = c.next_partition-partition-in-loop-partition.result in
    record {
      pieces = ap (λ (ps : List Piece). ps ++ pieces_from c.args.count c.args.place c.args.time c.args.writes.now next (c.args.count - next)) c.in_ok-push.ensures.ok
          ∙ pieces_grow c.args.count c.args.place c.args.time c.args.writes.now c.loop-partition.partition next c.loop-partition.pieces _
          c.loop-partition-test.true (before.there c.loop-partition-test.true) c.in_ok-writes_in.ensures found.least found.most found.skips
          ∙ before.pieces;
      within = found.most;
      there = found.there;
    }
