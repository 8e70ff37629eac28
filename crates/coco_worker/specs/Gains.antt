-- What passes of shards have gained: for each place the calls that its pass made there.
use Rattle.std.specs.Prelude.{ℕ, List}
use Rattle.coco_desks.specs.Gains.{Gain}
use Rattle.coco_journaled.specs.declared.entry.Placed.{Placed}
use Rattle.coco_journaled.specs.Passes.{Passing}
use Rattle.coco_shard.specs.RowState.{ShardState}
use Rattle.coco_shard.specs.Law.{Entry}
use Rattle.coco_shard.specs.declared.ops.Ask.{Ask}
use Rattle.coco_shard.specs.declared.ops.Answer.{Answer}

-- a pass of a shard
abbrev pub ShardPass : Type 0
ShardPass = Passing ShardState Ask Answer

-- a call of a shard as its journal has it
abbrev pub entered : Placed Ask Answer → Entry
entered c = record { ask = c.ask; answer = c.answer }

-- each pass of a shard made these calls behind what it had made
abbrev pub Make : List ShardPass → List ShardPass → (ℕ → List Entry) → Type 0
Make before after more = Gain entered before after more
