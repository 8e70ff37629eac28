use Rattle.std.proofs.Common.{sym, subst, arith}
use Rattle.std.specs.List.{All}
use Rattle.std.proofs.lemmas.List.Elements.{All-push}
use Rattle.coco_occ.specs.Interleaving.{MayPlay}
use Rattle.coco_tables.proofs.attempts.attempts_at.Goals as goal

pub loop-request-preserved : goal.loop-request-preserved
loop-request-preserved c = record {
  len = omega (arith, c.in_ok-push.ensures.len, c.loop-request.invariant.len);
  ready = subst (All (MayPlay c.args.procs.now c.args.partitions)) (sym c.in_ok-push.ensures.items)
      (All-push (MayPlay c.args.procs.now c.args.partitions) c.loop-request.attempts.items c.in_ok-attempt.attempt c.loop-request.invariant.ready c.in_ok-attempt.ensures);
}
