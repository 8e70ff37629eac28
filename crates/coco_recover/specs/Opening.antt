-- What is had of an opened store: what its files hold, by logs that stand in them.
use Rattle.std.specs.Prelude.{◌≡◌, ◌≢◌, ℕ, ◌<◌, ◌≤◌, nat_eq, List, length, map, Option, None, slice_index, slice_index_or, IsSome}
use Rattle.std.specs.List.{AllByRecursion, filter, flat_map, range_with_len, slice_get}
use Rattle.std.specs.FinMap.{empty}
use Rattle.std.specs.Option.{unwrap_or}
use Rattle.coco_types.specs.RowKey.{RowKey, partition_of}
use Rattle.coco_types.specs.Limits.{epochs_end, files_end, most_batch_lines}
use Rattle.coco_types.specs.declared.call.Done.{Done}
use Rattle.coco_host.specs.Files.{Files}
use Rattle.coco_append.specs.Gaining.{Stands}
use Rattle.coco_ast.specs.Fitting.{Fits}
use Rattle.coco_ast.specs.History.{IsRising, RisesAbove, floor, kept, with_keep}
use Rattle.coco_ast.specs.Keyed.{Rows, value_at}
use Rattle.coco_ast.specs.Tree.{Procedures}
use Rattle.coco_entry.specs.declared.layout.Layout.{Layout}
use Rattle.coco_entry.specs.declared.layout.LayoutEntry.{LayoutEntry}
use Rattle.coco_entry.specs.Layouts.{IsLayout}
use Rattle.coco_kept.specs.Holding.{NeverFall}
use Rattle.coco_kept.specs.Keeping.{HasDistinctIds, HoldsKept, Keeping}
use Rattle.coco_load.specs.Epochs.{IsNextOf}
use Rattle.coco_load.specs.Reading.{maps_of}
use Rattle.coco_load.specs.Tables.{HoldMap, HoldMaps, Maps}
use Rattle.coco_log.specs.LogState.{IsFresh, LogState}
use Rattle.coco_rules.specs.Readying.{AreAmong}
use Rattle.coco_shard.specs.RowState.{IsOfPartition, IsSettled, ShardState, stable_at}
use Rattle.coco_standing.specs.Standing.{TablesStand, none_behind}
use Rattle.coco_store.specs.Contents.{Contents, Holds, history_of, map_in, on, rows_of}
use Rattle.coco_store.specs.Entries.{commits_kind, layouts_kind, prepared_kind}
use Rattle.coco_store.specs.Placement.{IsHeldBy}
use Rattle.coco_store.specs.Rules.{IsWithinLimits, base_values, commit_epochs, prepared_epochs}
use Rattle.coco_store.specs.Texts.{IsAcceptedText}
use Rattle.coco_recover.specs.Layouts.{place_behind}
use Rattle.coco_recover.specs.Nodes.{greatest_of, greatest_prepared}
use Rattle.coco_recover.specs.declared.opening.Logs.{Logs}
use Rattle.coco_recover.specs.declared.opening.Opened.{Opened}

-- the last layout, with its keep number and its base file
abbrev pub entry_in : Opened → LayoutEntry
entry_in store = record { layout = store.layout; keep = store.keep; base_file = store.base_file }

-- the log of a node
abbrev pub node_log : Logs → ℕ → LogState
node_log logs n = slice_index_or logs.nodes.items n logs.root

-- ---- shards

abbrev pub shard_in : List ShardState → ℕ → ShardState
shard_in shards p = unwrap_or (slice_get shards p) empty

-- so many shards hold one map: the one at place p has the rows of partition p, no row is touched, and the stable values are the map's
pub record ShardsHold (m : Rows) (shards : List ShardState) : Type 0 where
  pub partitions : (p : ℕ) → IsOfPartition (length shards) p (shard_in shards p)
  pub settled : (p : ℕ) → IsSettled (shard_in shards p)
  pub values : (k : RowKey) → stable_at (shard_in shards (partition_of (length shards) k)) k ≡ value_at m k

-- ---- what the files hold

-- each node has the history's rows in each partition that it holds
abbrev pub HaveRows : Contents → Type 0
HaveRows c = (n p : ℕ) → n < c.setting.entry.layout.nodes → p < c.setting.entry.layout.partitions → IsHeldBy c.setting.entry.layout p n → rows_of c n p ≡ on c.setting p (map_in c)

-- an opened store has what these contents say, and the replies that are kept under this keep number
pub record Has (keep : Option ℕ) (c : Contents) (store : Opened) : Type 0 where
  pub layout : entry_in store ≡ c.setting.entry
  pub procs : store.procs ≡ c.setting.tree
  pub dones : store.kept.dones ≡ kept (with_keep keep (history_of c))
  pub floor : store.kept.floor ≡ floor (with_keep keep (history_of c))
  pub prepared : store.prepared.items ≡ map (λ n. greatest_prepared (c.prepared n)) (range_with_len 0 c.setting.entry.layout.nodes)
  pub tables : HoldMaps c.setting.entry.layout (maps_of c) store.shards.items store.copies.items
  pub map : HaveRows c → HoldMap c.setting.entry.layout (map_in c) store.shards.items store.copies.items
  pub primaries : HaveRows c → ShardsHold (map_in c) store.shards.items
  pub next : IsNextOf c store.next_epoch
  pub epochs : store.epochs.items ≡ commit_epochs c.commits
  pub base : flat_map (λ rows. rows) store.base.items ≡ base_values c.base
  pub place : store.layout_place ≡ place_behind c.earlier

-- each node has prepared every committed epoch: these are the epochs of its entries, all below the next one, of which the greatest is the one that is had
pub record HaveReadied (prepared : ℕ → List ℕ) (store : Opened) : Type 0 where
  pub greatest : store.prepared.items ≡ map (λ n. greatest_of 0 (prepared n)) (range_with_len 0 store.layout.nodes)
  pub committed : (n : ℕ) → n < store.layout.nodes → AreAmong (prepared n) store.epochs.items
  pub below : (n : ℕ) → n < store.layout.nodes → AllByRecursion (λ e. e < store.next_epoch) (prepared n)

-- so it is with the entries that files hold
abbrev pub EntriesAreReadied : Type 0
EntriesAreReadied = (keep : Option ℕ) (files : Files) (c : Contents) (store : Opened) → Holds files c → Has keep c store → HaveReadied (λ n. prepared_epochs (c.prepared n)) store

-- where each node has the history's rows, the tables of an opened store stand at the history's map, and no node is behind
abbrev pub OpenedStand : Type 0
OpenedStand = (keep : Option ℕ) (c : Contents) (store : Opened) → Has keep c store → HaveRows c → TablesStand c.setting.entry.layout (map_in c) none_behind store.shards.items store.copies.items

-- the files hold a store, and the opened one has what they hold
pub record IsOpening (keep_of : Contents → Option ℕ) (files : Files) (store : Opened) : Type 0 where
  pub contents : Contents
  pub holds : Holds files contents
  pub has : (c : Contents) → Holds files c → Has (keep_of c) c store

-- the keep number of the layout, and none, under which all replies are kept
abbrev pub its_keep : Contents → Option ℕ
its_keep c = c.setting.entry.keep

abbrev pub no_keep : Contents → Option ℕ
no_keep c = None

-- ---- on every host

-- each log is of its file and kind, and may be used; the coordinator's is in no node's file
pub record AreLogs (layout : Layout) (logs : Logs) : Type 0 where
  pub root : IsFresh logs.root 0 layouts_kind
  pub chief : IsFresh logs.chief layout.chief_file commits_kind
  pub count : length logs.nodes.items ≡ layout.nodes
  pub nodes : (n : ℕ) → n < layout.nodes → IsFresh (node_log logs n) (slice_index layout.node_files n) prepared_kind
  pub apart : (n : ℕ) → n < layout.nodes → logs.chief.file ≢ (node_log logs n).file

-- each log has the entries that its file reads as, where the host tells that, and a crash leaves the file so
pub record AllStand (logs : Logs) (reads : Option Files) (may_leave : Files → Type 0) : Type 0 where
  pub root : Stands logs.root reads may_leave
  pub chief : Stands logs.chief reads may_leave
  pub nodes : (n : ℕ) → n < length logs.nodes.items → Stands (node_log logs n) reads may_leave

-- the kept Dones are calls of these procedures, rising by epoch, time and id, each id once, and those that stay of Dones which were added epoch by epoch, not too many of each, and all below this one
pub record AreKeptBelow (procs : Procedures) (kept : Keeping) (epoch : ℕ) : Type 0 where
  pub before : Option ℕ
  pub added : List Done
  pub holds : HoldsKept kept before added
  pub rising : NeverFall added
  pub below : AllByRecursion (λ d. d.epoch < epoch) added
  pub few : (e : ℕ) → length (filter (λ d. nat_eq d.epoch e) added) ≤ most_batch_lines
  pub in_order : IsRising kept.dones
  pub once : HasDistinctIds kept.dones
  pub fit : AllByRecursion (λ d. Fits procs d.call) kept.dones

-- a row's table is one of these procedures
abbrev pub IsTabled : Procedures → RowKey → Type 0
IsTabled procs key = key.table < length procs.tables

-- the layout is good, each table holds a map of its partition, the shards hold one map together, each row's table is there, the committed epochs rise, each node has prepared them, and the next epoch's number is above the base's, above them, above what each node prepared, and above those of the kept Dones
pub record IsSoundStore (store : Opened) : Type 0 where
  pub is : IsLayout (entry_in store)
  pub limits : IsWithinLimits (entry_in store)
  pub procs : IsAcceptedText store.layout.text store.procs
  pub maps : Maps
  pub tables : HoldMaps store.layout maps store.shards.items store.copies.items
  pub map : Rows
  pub primaries : ShardsHold map store.shards.items
  pub tabled : (p j : ℕ) (k : RowKey) → IsSome (value_at (maps p j) k) → IsTabled store.procs k
  pub base_tabled : AllByRecursion (λ r. IsTabled store.procs r.0) (flat_map (λ rows. rows) store.base.items)
  pub rises : RisesAbove store.layout.base_epoch store.epochs.items
  pub below : AllByRecursion (λ e. e < store.next_epoch) store.epochs.items
  pub each_node : length store.prepared.items ≡ store.layout.nodes
  pub prepared_below : AllByRecursion (λ e. e < store.next_epoch) store.prepared.items
  pub entries : ℕ → List ℕ
  pub readied : HaveReadied entries store
  pub keeps : AreKeptBelow store.procs store.kept store.next_epoch
  pub first : 0 < store.next_epoch
  pub above_base : store.layout.base_epoch < store.next_epoch
  pub end : store.next_epoch ≤ epochs_end
  pub early : store.layout_place < files_end
  pub logs : AreLogs store.layout store.logs
