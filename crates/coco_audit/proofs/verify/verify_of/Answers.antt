use Rattle.std.proofs.Common.{refl, sym, ◌∙◌}
use Rattle.coco_types.specs.declared.call.Done.{Done}
use Rattle.coco_ast.specs.Fitting.{Fits}
use Rattle.coco_load.specs.RowMaps.{joined, map_with}
use Rattle.coco_audit.proofs.Between.{all_between}
use Rattle.coco_audit.proofs.Replies.{ran_none, ran_one_more, first_unlike}
use Rattle.coco_audit.proofs.verify.verify_of.Goals as goal

pub loop-place-init : goal.loop-place-init
loop-place-init c = ran_none c.args.procs.now (map_with (joined c.args.base.now)) c.args.kept.now.dones c.args.first _ c.in_ok-executor.ensures

pub apply-requires : goal.apply-requires
apply-requires c = all_between (λ (d : Done). Fits c.args.procs.now d.call) c.args.kept.now.dones c.args.first c.loop-place.place c.done_at-done.result.now c.loop-place.auto.place c.done_at-done.ensures c.requires

pub returns-then-differs-clause-unlike : goal.returns-then-differs-clause-unlike
returns-then-differs-clause-unlike c =
    first_unlike c.args.procs.now (map_with (joined c.args.base.now)) c.args.kept.now.dones c.args.first c.loop-place.place c.done_at-done.result.now c.loop-place.executor.rows _
    c.loop-place.auto.place c.done_at-done.ensures c.loop-place.invariant refl refl c.get.ensures c.in_ok-computed.ensures.reply
    (λ same. c.differs.ensures.other c.if-differs.true (sym c.get.ensures ∙ same))

pub loop-place-preserved : goal.loop-place-preserved
loop-place-preserved c =
    ran_one_more c.args.procs.now (map_with (joined c.args.base.now)) c.args.kept.now.dones c.args.first c.loop-place.place c.done_at-done.result.now c.loop-place.executor.rows _ c.in_ok-computed.computed
    c.loop-place.auto.place c.done_at-done.ensures c.loop-place.invariant c.in_ok-computed.ensures.reply c.in_ok-computed.ensures.rows (c.differs.ensures.same c.if-differs.false)
