use Rattle.std.proofs.Common.{◌≡◌, List, [], ap, ◌∙◌, subst, sym}
use Rattle.std.specs.VecDeque.Iter.{deque_iter_rest}
use Rattle.std.proofs.lemmas.Result.{IfOk-weaker}
use Rattle.coco_types.specs.declared.call.Done.{Done}
use Rattle.coco_ast.specs.History.{rows_after}
use Rattle.coco_ast.specs.Keyed.{Rows}
use Rattle.coco_entry.specs.declared.layout.Layout.{Layout}
use Rattle.coco_kept.proofs.Adding.{no_more}
use Rattle.coco_query.specs.Frozen.{HoldsFrozen}
use Rattle.coco_query.specs.Tables.{between}
use Rattle.coco_query.proofs.FrozenLemmas.{shards_count, shards_hold}
use Rattle.coco_query.proofs.tables.earlier.Goals as goal

pub returns-clause-count : goal.returns-clause-count
returns-clause-count c =
    let alone : Layout = record c.args.layout { copies = 0 } in
    let held = c.loop-done.invariant.held in
    IfOk-weaker c.frozen_shards.result _ _ (λ tables are. shards_count alone c.loop-done.replay.executor.rows c.loop-done.replay.shards.items held.0 held.1 tables.items are) c.frozen_shards.ensures

pub returns-clause-tables : goal.returns-clause-tables
returns-clause-tables c =
    let alone : Layout = record c.args.layout { copies = 0 } in
    let held = c.loop-done.invariant.held in
    let none : deque_iter_rest c.loop-done.done-iterator ≡ [] = no_more (deque_iter_rest c.loop-done.done-iterator) c.in-None.ensures.steps.0 in
    let rows = sym (ap (λ (ds : List Done). rows_after c.args.procs.now c.loop-done.replay.executor.rows (between c.args.layout.base_epoch c.args.epoch ds)) none) ∙ c.loop-done.invariant.rows in
    IfOk-weaker c.frozen_shards.result _ _ (λ tables are. subst (λ (m : Rows). HoldsFrozen m tables.items) rows (shards_hold alone c.loop-done.replay.executor.rows c.loop-done.replay.shards.items held.0 held.1 tables.items are)) c.frozen_shards.ensures
