use Rattle.std.proofs.Common.{◌≡◌, List, ◌++◌, map, vec_len, All}
use Rattle.coco_seen.specs.Closes.{StandsFor}
use Rattle.coco_seen.proofs.seen.Seen.gather.Given as goal

abbrev pub invariant-loop-holder : goal.invariant-loop-holder
invariant-loop-holder g l = record {
  lock : l.seat.table_id ≡ l.self.id;
  gone : List g.row.H.Denot;
  parts : l.fn.holders.items ≡ l.holders.items ++ gone;
  stands : StandsFor (map g.H.HoldsNote.note gone) l.seat.me.0;
  facts : All g.H.HoldsNote.fact gone;
}

abbrev pub decreases-loop-holder : goal.decreases-loop-holder
decreases-loop-holder g l = vec_len l.holders
