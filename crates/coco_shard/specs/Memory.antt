-- What takes memory of a shard.
use Rattle.std.specs.Prelude.{◌≡◌, Bool, true, false, None, Option, ◌⊎◌}
use Rattle.std.specs.FinMap.{get}
use Rattle.coco_types.specs.RowKey.{RowKey}
use Rattle.coco_types.specs.Packing.{IsText}
use Rattle.coco_types.specs.declared.value.Value.{Value}
use Rattle.coco_shard.specs.declared.ops.Op.{Op}
use Rattle.coco_shard.specs.declared.ops.Op.TheVariants.{Read, Lock, Extend, Install, Release, Past}
use Rattle.coco_shard.specs.RowState.{ShardState}
use Rattle.coco_shard.specs.Table.{key_of}

-- whether the operation is a lock
abbrev pub is_lock : Op → Bool
is_lock (Read key) = false
is_lock (Lock key) = true
is_lock (Extend key wts time) = false
is_lock (Install key time value) = false
is_lock (Release key) = false
is_lock (Past key) = false

-- what takes memory to do: any operation where the key has no row, and elsewhere a lock, which makes room for a text
abbrev pub TakesRoom : ShardState → Op → Type 0
TakesRoom s op = (get s (key_of op) ≡ None) ⊎ (is_lock op ≡ true)

-- what takes memory to keep under a key: any value where the key has no row, and elsewhere a text
abbrev pub TakesMemory : ShardState → RowKey → Option Value → Type 0
TakesMemory s key value = (get s key ≡ None) ⊎ IsText value
