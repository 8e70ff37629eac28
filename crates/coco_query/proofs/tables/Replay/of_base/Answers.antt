use Rattle.std.proofs.Common.{◌∙◌}
use Rattle.coco_query.proofs.ReplayLemmas.{lists_more}
use Rattle.coco_query.proofs.tables.Replay.of_base.Goals as goal

pub loop-rows-preserved : goal.loop-rows-preserved
loop-rows-preserved c = record {
  rows = lists_more c.loop-rows.executor.rows c.load_list.new.executor.rows c.as_slice.result.now c.in-Some.rows c.loop-rows.rows-iterator.rest.items c.next.new.self.rest.items c.in_ok-load_list.ensures.rows c.as_slice.ensures c.in-Some.ensures.steps.0
      ∙ c.loop-rows.invariant.rows;
  held = c.in_ok-load_list.ensures.held;
}
