use Rattle.std.proofs.Common.{◌≡◌}
use Rattle.std.specs.FinMap.{empty}
use Rattle.std.specs.List.{AllByRecursion, flat_map}
use Rattle.std.specs.VecDeque.Iter.{deque_iter_rest}
use Rattle.coco_ast.specs.Fitting.{Fits}
use Rattle.coco_ast.specs.History.{rows_after}
use Rattle.coco_ast.specs.Keyed.{put_over}
use Rattle.coco_load.specs.Reading.{puts}
use Rattle.coco_query.specs.Replaying.{HoldsItsMap}
use Rattle.coco_query.specs.Tables.{between}
use Rattle.coco_query.proofs.tables.earlier.Given as goal

-- the calls of the Dones that are left lead on to the map of all
abbrev pub invariant-loop-done : goal.invariant-loop-done
invariant-loop-done l = record {
  layout : l.layout ≡ record l.fn.layout { copies = 0 };
  rows : rows_after l.procs l.replay.executor.rows (between l.layout.base_epoch l.epoch (deque_iter_rest l.done-iterator))
      ≡ rows_after l.procs (put_over empty (puts (flat_map (λ rows. rows) l.fn.base.items))) (between l.fn.layout.base_epoch l.epoch l.kept.dones);
  held : HoldsItsMap l.layout l.replay.executor.rows l.replay.shards.items;
  fit : AllByRecursion (λ d. Fits l.procs d.call) (deque_iter_rest l.done-iterator);
}
