use Rattle.std.proofs.Common.{◌+◌, drop, refl, subst, inr, ⊎_elim, arith}
use Rattle.coco_log.specs.Gates.{IsHead}
use Rattle.coco_log.proofs.Walks.{entry_here, broken_here}
use Rattle.coco_log.proofs.gates.next_gate.Goals as goal

pub returns-then-next-end-clause-step : goal.returns-then-next-end-clause-step
returns-then-next-end-clause-step g c files told long part =
    (c.in-Open.length + 5, omega arith, entry_here (files c.args.window.now.file) c.args.at c.in-Open.length (subst (IsHead (drop c.args.at (files c.args.window.now.file))) c.in-Open.is (c.in_ok-head_at.ensures.head files told part)) (omega arith) (omega arith))

pub returns-else-length-le-MOST_ENTRY_BYTES-clause-step : goal.returns-else-length-le-MOST_ENTRY_BYTES-clause-step
returns-else-length-le-MOST_ENTRY_BYTES-clause-step g c files told long part = (
  refl,
  inr (broken_here (files c.args.window.now.file) c.args.at c.in-Open.length (subst (IsHead (drop c.args.at (files c.args.window.now.file))) c.in-Open.is (c.in_ok-head_at.ensures.head files told part))
      (λ short room. ⊎_elim (λ far. omega (arith, far.1, room, long, c.from.ensures)) (λ longer. omega (arith, longer, short)) c.else-length-le-MOST_ENTRY_BYTES.either)),
)
