use Rattle.std.proofs.Common.{arith}
use Rattle.coco_desks.proofs.DeskLemmas.{row_more}
use Rattle.coco_desks.proofs.room.rows_for.Goals as goal

pub loop-preserved : goal.loop-preserved
loop-preserved g c =
    let row = c.in-Ok.ensures in
    record {
      count = omega (arith, c.loop.invariant.count, c.push_reserved.ensures.len);
      room = omega (arith, c.loop.invariant.room, c.push_reserved.ensures.capacity);
      each = row_more c.args.count c.loop.rows.items c.push_reserved.new.self.items c.in-Ok.row c.loop.invariant.each c.push_reserved.ensures.items (row.items, row.capacity);
    }
