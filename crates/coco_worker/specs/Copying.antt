-- What a commit asks of the copies at once, where the net carries it.
use Rattle.std.specs.Prelude.{◌≡◌, ℕ, ◌+◌, ◌*◌, ◌/◌, ◌%◌, ◌<◌, ◌≤◌, nat_eq, Bool, if◌then◌else◌, List, [], ◌∷◌, map}
use Rattle.coco_types.specs.Limits.{most_partitions}
use Rattle.coco_types.specs.declared.call.Write.{Write}
use Rattle.coco_copy.specs.declared.ops.CopyAsk.{CopyAsk}
use Rattle.coco_copy.specs.declared.ops.CopyAsk.TheVariants.{Put}
use Rattle.coco_copy.specs.declared.ops.CopyAnswer.{CopyAnswer}
use Rattle.coco_journaled.specs.declared.entry.Placed.{Placed}
use Rattle.coco_pieces.specs.Pieces.{writes_on}
use Rattle.coco_worker.specs.declared.slot.EpochConfig.{EpochConfig}
use Rattle.coco_worker.specs.declared.copies.WorkerCommit.{WorkerCommit}

-- what a copy was asked by a call
abbrev pub asked : Placed CopyAsk CopyAnswer → CopyAsk
asked c = c.ask

-- so many tables are the copies of the commit's partitions, and there are nodes for them
pub record MayDeliver (c : WorkerCommit) (tables : ℕ) : Type 0 where
  pub some : 0 < c.partitions
  pub most : c.partitions ≤ most_partitions
  pub nodes : 0 < c.config.nodes
  pub tables_are : tables ≡ c.partitions * c.config.copies

-- Of so many copies of each partition, copy j of partition p stands behind the j - 1 before it and those of the partitions before.
abbrev pub partition_of_table : EpochConfig → ℕ → ℕ
partition_of_table config table = table / config.copies

-- it is on the j-th node behind node p of the ring
abbrev pub node_of : EpochConfig → ℕ → ℕ
node_of config table = (partition_of_table config table + table % config.copies + 1) % config.nodes

abbrev pub put : WorkerCommit → Write → CopyAsk
put c w = Put c.config.epoch c.time w

-- those of the commit's writes that are on the table's partition, where the net carries them to the table's node
abbrev pub puts_at : (ℕ → ℕ → ℕ → ℕ → Bool) → WorkerCommit → ℕ → List Write → List CopyAsk
puts_at carries c table writes = if carries c.config.epoch c.worker c.place (node_of c.config table) then map (put c) (writes_on c.partitions (partition_of_table c.config table) writes) else []

-- what a write asks of a table as the partition's copy at a place, where the net carries it to the copy's node
abbrev pub put_at : (ℕ → ℕ → ℕ → ℕ → Bool) → WorkerCommit → ℕ → ℕ → Write → ℕ → List CopyAsk
put_at carries c partition copy w table =
    if nat_eq (partition * c.config.copies + copy) table then (if carries c.config.epoch c.worker c.place ((partition + copy + 1) % c.config.nodes) then put c w ∷ [] else []) else []
