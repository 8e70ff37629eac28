use Rattle.std.proofs.Common.{◌≡◌, vec_len}
use Rattle.std.specs.List.{All}
use Rattle.coco_occ.specs.Interleaving.{MayPlay}
use Rattle.coco_tables.proofs.attempts.attempts_at.Given as goal

abbrev pub invariant-loop-request : goal.invariant-loop-request
invariant-loop-request l = record {
  len : vec_len l.attempts ≡ l.request-index;
  ready : All (MayPlay l.procs l.partitions) l.attempts.items;
}
