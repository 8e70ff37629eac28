-- What an epoch needs to be run on the tables of all nodes, and what holds of them behind it.
use Rattle.std.specs.Prelude.{◌≡◌, ℕ, ◌<◌, ◌≤◌, Bool, List, map, length, nat_eq, []}
use Rattle.std.specs.List.{IsDistinct}
use Rattle.coco_types.specs.Limits.{most_batch_lines, most_partitions}
use Rattle.coco_types.specs.declared.call.Request.{Request}
use Rattle.coco_ast.specs.Keyed.{Rows}
use Rattle.coco_ast.specs.Tree.{Procedures}
use Rattle.coco_entry.specs.declared.layout.Layout.{Layout}
use Rattle.coco_tail.specs.Running.{FitAll}
use Rattle.coco_finish.specs.Finishing.{AreWhole}
use Rattle.coco_members.specs.AtRest.{primaries_of}
use Rattle.coco_finish.specs.declared.tables.NodeTables.{NodeTables}
use Rattle.coco_parallel.specs.Ending.{Start}
use Rattle.coco_parallel.specs.Worked.{start_of}
use Rattle.coco_ship.specs.declared.ring.Ring.{Ring}
use Rattle.coco_standing.specs.Standing.{TablesKeep, TablesStand, all_behind, none_behind}
use Rattle.coco_worker.specs.declared.slot.EpochConfig.{EpochConfig}

-- ---- tables

-- the tables of all nodes have a map, and none is behind
abbrev pub HaveAll : Rows → NodeTables → Type 0
HaveAll m t = TablesStand t.layout m none_behind t.shards.items t.copies.items

-- the shards alone have it, whatever the copies have
abbrev pub HaveShards : Rows → NodeTables → Type 0
HaveShards m t = TablesStand (primaries_of t.layout) m none_behind t.shards.items []

-- to promote the shards alone gives it
abbrev pub GiveShards : Rows → NodeTables → Type 0
GiveShards m t = TablesStand (primaries_of t.layout) m all_behind t.shards.items []

-- to revert all of them gives it, whatever pends
abbrev pub KeepAll : Rows → NodeTables → Type 0
KeepAll m t = TablesKeep t.layout m t.shards.items t.copies.items

-- to promote all of them gives it
abbrev pub GiveAll : Rows → NodeTables → Type 0
GiveAll m t = TablesStand t.layout m all_behind t.shards.items t.copies.items

-- tables that are laid out alike, with the same nodes behind
pub record SamePlaces (old new : NodeTables) : Type 0 where
  pub layout : new.layout ≡ old.layout
  pub behind : new.behind ≡ old.behind

-- the ring of a layout's nodes
abbrev pub ring_of : Layout → Ring
ring_of layout = record { nodes = layout.nodes; partitions = layout.partitions; copies = layout.copies }

-- ---- an epoch

-- Requests that an epoch may try on tables that have a map: they fit the procedures, each has an id of its own, and
-- those who run them are told of the nodes and copies that there are.
pub record MayTry (procs : Procedures) (requests : List Request) (config : EpochConfig) (t : NodeTables) : Type 0 where
  pub stands : (m : Rows) × HaveShards m t
  pub whole : AreWhole t
  pub partitions : t.layout.partitions ≤ most_partitions
  pub fit : FitAll procs requests
  pub few : length requests ≤ most_batch_lines
  pub distinct : IsDistinct nat_eq (map (λ (r : Request). r.id) requests)
  pub workers : 0 < config.workers
  pub attempts : 0 < config.attempts
  pub nodes : config.nodes ≡ t.layout.nodes
  pub copies : config.copies ≡ t.layout.copies

-- what an epoch begins with on tables that have this map
abbrev pub start_on : Procedures → Rows → List Request → NodeTables → EpochConfig → (ℕ → ℕ → ℕ → ℕ → Bool) → Start
start_on procs m requests t config carries = start_of procs m requests t.shards.items config carries
