-- What tables that have maps of their own come to.
use Rattle.std.specs.Prelude.{◌≡◌, ℕ, ◌<◌, false, List}
use Rattle.coco_ast.specs.Keyed.{Rows, on_partition}
use Rattle.coco_tail.specs.Shards as epochs
use Rattle.coco_finish.specs.Finishing.{is_behind, AreWhole, Finish, HaveMap}
use Rattle.coco_finish.specs.declared.tables.NodeTables.{NodeTables}
use Rattle.coco_load.specs.Tables.{Maps}
use Rattle.coco_node.specs.Node.{Node}
use Rattle.coco_lost.specs.Reading.{HaveMaps}

-- tables that have one map together have each its partition of it
abbrev pub OneMapIsMany : Type 0
OneMapIsMany = (m : Rows) (t : NodeTables) → HaveMap m t → HaveMaps (λ p j. on_partition t.layout.partitions p m) t

-- where no node is behind the shards hold a map together, as an epoch wants it
abbrev pub ShardsHoldOne : Type 0
ShardsHoldOne = (maps : Maps) (t : NodeTables) → HaveMaps maps t → ((n : ℕ) → n < t.layout.nodes → is_behind t.behind.items n ≡ false) → (m : Rows) × epochs.HoldMap m t.shards.items

-- they keep their maps where nodes finish an epoch
abbrev pub FinishKeepsMaps : Type 0
FinishKeepsMaps = (epoch : ℕ) (cores cores_new : List Node) (t t_new : NodeTables) (maps : Maps) → Finish epoch cores cores_new t t_new → AreWhole t_new → HaveMaps maps t → HaveMaps maps t_new
