use Rattle.std.proofs.Common.{◌≡◌, ◌++◌, false}
use Rattle.std.specs.Map.{keys_of}
use Rattle.coco_shard.specs.Kept.{values_in}
use Rattle.coco_shard.proofs.values.add_keys.Given as goal

-- the keys so far, and those of the rows to come
abbrev pub invariant-loop-key : goal.invariant-loop-key
invariant-loop-key l = l.keys.items ++ keys_of (values_in false l.key-iterator) ≡ l.initial.keys.items ++ keys_of (values_in false l.rows.entries)
