use Rattle.std.proofs.Common.{◌<◌, ap, length, rules, sym}
use Rattle.coco_copy.specs.CopyState.{CopyState}
use Rattle.coco_ship.proofs.ExampleLemmas.{written_begun}
use Rattle.coco_node_tests.proofs.ship.table.Goals as goal

pub returns-then-not-early-clause-written : goal.returns-then-not-early-clause-written
returns-then-not-early-clause-written c = written_begun c.args.pieces.now c.args.partition c.begin.new.self 1 c.new-table.result.stable c.begin.ensures

pub loop-piece-init : goal.loop-piece-init
loop-piece-init c = record {
  epoch = ap (λ (z : CopyState). z.epoch) c.begin.ensures;
  written = written_begun c.args.pieces.now c.args.partition c.begin.new.self 1 c.new-table.result.stable c.begin.ensures;
}

pub loop-piece-preserved : goal.loop-piece-preserved
loop-piece-preserved c =
    let i = c.loop-piece.piece-index in
    let within : i < length c.args.pieces.now = search rules in
    record {
      epoch = c.in_ok-put_early.ensures.epoch;
      written = c.in_ok-put_early.ensures.written c.args.pieces.now (i, within, sym c.piece-item.is) c.loop-piece.invariant.written;
    }
