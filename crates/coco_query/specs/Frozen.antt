-- Tables that never change: what they have, and the map that they hold together.
use Rattle.std.specs.Prelude.{◌≡◌, ℕ, ◌<◌, List, length, slice_index_or, Option, IsSome}
use Rattle.std.specs.FinMap.{empty}
use Rattle.coco_types.specs.RowKey.{RowKey, partition_of}
use Rattle.coco_types.specs.declared.value.Value.{Value}
use Rattle.coco_ast.specs.Keyed.{Rows, on_partition, value_at}
use Rattle.coco_shard.specs.RowState.{stable_at}
use Rattle.coco_query.specs.declared.frozen.Frozen.{Frozen}
use Rattle.coco_query.specs.declared.frozen.Frozen.TheVariants.{Shard, Copy}
use Rattle.coco_query.specs.declared.frozen.FrozenAnswer.{FrozenAnswer}
use Rattle.coco_query.specs.declared.frozen.FrozenAnswer.TheVariants.{Had}
use Rattle.coco_query.specs.declared.frozen.FrozenAsk.{FrozenAsk}
use Rattle.coco_query.specs.declared.frozen.FrozenAsk.TheVariants.{Get}

-- what a table has at a key
abbrev pub had : Frozen → RowKey → Option Value
had (Shard s) k = stable_at s k
had (Copy s) k = value_at s.stable k

-- ---- as a machine

abbrev pub answer_in : Frozen → FrozenAsk → FrozenAnswer
answer_in t (Get k) = Had (had t k)

-- no ask changes it
abbrev pub after_ask : Frozen → FrozenAsk → Frozen
after_ask t ask = t

-- ---- one for each partition

abbrev pub table_at : List Frozen → ℕ → Frozen
table_at tables p = slice_index_or tables p (Shard empty)

-- each key of the table at place p is of partition p of so many
abbrev pub AreOfPartitions : List Frozen → Type 0
AreOfPartitions tables = (p : ℕ) (k : RowKey) → p < length tables → IsSome (had (table_at tables p) k) → partition_of (length tables) k ≡ p

-- the table at place p has the map's rows of partition p, and no others
abbrev pub HoldsFrozen : Rows → List Frozen → Type 0
HoldsFrozen m tables = (p : ℕ) (k : RowKey) → p < length tables → had (table_at tables p) k ≡ value_at (on_partition (length tables) p m) k
