use Rattle.std.proofs.Common.{Option, refl, ap, arith}
use Rattle.std.proofs.lemmas.Option.{slice_get_past}
use Rattle.coco_types.specs.declared.call.Request.{Request}
use Rattle.coco_order.specs.Outcome.{done_of, is_commit}
use Rattle.coco_parallel.proofs.EndsLemmas.{left_at, none_added}
use Rattle.coco_parallel.proofs.ends.take_commit.Goals as goal

pub returns-in_ok-push-clause-left : goal.returns-in_ok-push-clause-left
returns-in_ok-push-clause-left c =
    left_at c.args.tried.now c.args.requests.now _ c.index-requests-place.result c.if-place-requests.true refl (ap is_commit c.in-Some.ensures)

pub returns-else-place-requests-clause-dones : goal.returns-else-place-requests-clause-dones
returns-else-place-requests-clause-dones c = none_added _ c.args.dones.now.items
    (ap (λ (o : Option Request). done_of c.args.epoch o c.args.tried.now.outcome) (slice_get_past c.args.requests.now c.args.tried.now.place (omega (arith, c.if-place-requests.false))))
