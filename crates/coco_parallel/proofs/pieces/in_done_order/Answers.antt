use Rattle.std.proofs.Common.{rules}
use Rattle.std.proofs.lemmas.Fn.{always_returns_same}
use Rattle.coco_parallel.proofs.PieceOrderLemmas.{sorted_in_order, rank}
use Rattle.coco_parallel.proofs.pieces.in_done_order.Goals as goal

pub returns-clause-order : goal.returns-clause-order
returns-clause-order c = sorted_in_order _ _ (c.sort_unstable_by_key.ensures.sorted (rank c.args.requests.now) (always_returns_same _ _ _ (λ a r g h. search rules)))
