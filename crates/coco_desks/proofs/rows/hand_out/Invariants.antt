use Rattle.std.proofs.Common.{◌≡◌, ◌≤◌, length, take, vec_len, vec_capacity}
use Rattle.coco_desks.proofs.RowLemmas.{HandedFrom}
use Rattle.coco_desks.proofs.rows.hand_out.Given as goal

-- the columns from this one on have their items, and the row has the items of the others
abbrev pub invariant-loop-left : goal.invariant-loop-left
invariant-loop-left g l = record {
  len : vec_len l.row ≡ l.left;
  items : l.row.items ≡ take l.left l.fn.row.items;
  room : vec_capacity l.row ≡ vec_capacity l.fn.row;
  most : l.left ≤ length l.fn.columns;
  handed : HandedFrom l.fn.row.items l.left l.fn.columns l.columns;
}

abbrev pub decreases-loop-left : goal.decreases-loop-left
decreases-loop-left g l = l.left
