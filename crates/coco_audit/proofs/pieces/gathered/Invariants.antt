use Rattle.coco_audit.specs.Dumping.{HasKeys}
use Rattle.coco_audit.proofs.pieces.gathered.Given as goal

-- the keys of the shards so far are there
abbrev pub invariant-loop-shard : goal.invariant-loop-shard
invariant-loop-shard l = HasKeys l.shards l.shard-index l.keys.items
