use Rattle.std.proofs.Common.{◌≡◌, vec_len}
use Rattle.coco_tables.proofs.attempts.empty_shards.Given as goal

abbrev pub invariant-loop : goal.invariant-loop
invariant-loop l = vec_len l.shards ≡ l.counter
