-- What holds of tables and kept replies while a store's files are read, and once they are.
use Rattle.std.specs.Prelude.{◌≡◌, ℕ, ◌+◌, ◌<◌, true, false, nat_eq, List, [], ◌∷◌, ◌++◌, Option}
use Rattle.std.specs.Set.{is_member}
use Rattle.coco_ast.specs.History.{floor, kept, with_keep}
use Rattle.coco_ast.specs.Keyed.{Rows, put_over}
use Rattle.coco_copy.specs.CopyState.{CopyState}
use Rattle.coco_entry.specs.declared.commit.Commit.{Commit}
use Rattle.coco_entry.specs.declared.prepared.Prepared.{Prepared}
use Rattle.coco_kept.specs.Holding.{MayFollow, NeverFall}
use Rattle.coco_kept.specs.Keeping.{HoldsKept, Keeping}
use Rattle.coco_shard.specs.RowState.{ShardState}
use Rattle.coco_store.specs.Contents.{Contents, history_of, map_in, on, rows_of}
use Rattle.coco_store.specs.Entries.{BaseEntry}
use Rattle.coco_store.specs.Placement.{IsHeldBy}
use Rattle.coco_store.specs.Rules.{EachBehind, IsNextBase, IsNextCommit, Setting, base_of, commit_epochs, dones_in, dones_of, floor_in, kept_dones, values_of}
use Rattle.coco_load.specs.Epochs.{IsNextTo}
use Rattle.coco_load.specs.Reading.{HoldRead, maps_of, maps_read, puts, with_entry, with_rows}
use Rattle.coco_load.specs.Tables.{HoldMap, HoldMaps}

-- ---- tables

-- an entry more of a base puts its rows over the base's
abbrev pub BaseGrows : Type 0
BaseGrows = (s : Setting) (before : List BaseEntry) (entry : BaseEntry) → (base_of s (before ++ entry ∷ [])).rows ≡ put_over (base_of s before).rows (puts (values_of entry))

-- tables that hold the base are those of no entries yet
abbrev pub ReadingBegins : Type 0
ReadingBegins = (s : Setting) (base : Rows) (epochs : List ℕ) (shards : List ShardState) (copies : List CopyState) → HoldMap s.entry.layout base shards copies
    → HoldRead s base epochs (λ n. []) shards copies

-- the rows of an entry whose epoch is committed make them those of one entry more
abbrev pub CommittedIsRead : Type 0
CommittedIsRead = (s : Setting) (base : Rows) (epochs : List ℕ) (entries : ℕ → List Prepared) (n : ℕ) (e : Prepared) (shards : List ShardState) (copies : List CopyState)
    → is_member nat_eq epochs e.epoch ≡ true → HoldMaps s.entry.layout (with_rows s n e.rows (maps_read s base epochs entries)) shards copies
    → HoldRead s base epochs (with_entry n e entries) shards copies

-- of another entry nothing is loaded
abbrev pub OtherIsPassed : Type 0
OtherIsPassed = (s : Setting) (base : Rows) (epochs : List ℕ) (entries : ℕ → List Prepared) (n : ℕ) (e : Prepared) (shards : List ShardState) (copies : List CopyState)
    → is_member nat_eq epochs e.epoch ≡ false → HoldRead s base epochs entries shards copies
    → HoldRead s base epochs (with_entry n e entries) shards copies

-- the entries of each node decide, in whichever order the nodes' files are read
abbrev pub NodesDecide : Type 0
NodesDecide = (s : Setting) (base : Rows) (epochs : List ℕ) (entries others : ℕ → List Prepared) (shards : List ShardState) (copies : List CopyState)
    → ((n : ℕ) → n < s.entry.layout.nodes → entries n ≡ others n) → HoldRead s base epochs entries shards copies
    → HoldRead s base epochs others shards copies

-- once all entries are read, each table holds its rows by the file of its node
abbrev pub AllIsRead : Type 0
AllIsRead = (c : Contents) (shards : List ShardState) (copies : List CopyState) → HoldRead c.setting (base_of c.setting c.base).rows (commit_epochs c.commits) c.prepared shards copies
    → HoldMaps c.setting.entry.layout (maps_of c) shards copies

-- where each node has the history's rows in each partition that it holds, each table holds its partition of the history's map
abbrev pub TablesHoldTheMap : Type 0
TablesHoldTheMap = (c : Contents) (shards : List ShardState) (copies : List CopyState)
    → ((n p : ℕ) → n < c.setting.entry.layout.nodes → p < c.setting.entry.layout.partitions → IsHeldBy c.setting.entry.layout p n → rows_of c n p ≡ on c.setting p (map_in c))
    → HoldMaps c.setting.entry.layout (maps_of c) shards copies
    → HoldMap c.setting.entry.layout (map_in c) shards copies

-- ---- kept replies

-- the Dones of an entry of the base may follow those before it
abbrev pub BaseDonesFollow : Type 0
BaseDonesFollow = (s : Setting) (k : Keeping) (before : Option ℕ) (entries : List BaseEntry) (entry : BaseEntry) → EachBehind (IsNextBase s) [] entries → IsNextBase s entries entry
    → HoldsKept k before (kept_dones entries)
    → MayFollow k (dones_of entry) × NeverFall (kept_dones entries ++ dones_of entry)

-- so may those of a commit entry
abbrev pub CommittedDonesFollow : Type 0
CommittedDonesFollow = (s : Setting) (k : Keeping) (before : Option ℕ) (base : List BaseEntry) (commits : List Commit) (commit : Commit) → EachBehind (IsNextBase s) [] base
    → EachBehind (IsNextCommit s base) [] commits → IsNextCommit s base commits commit → HoldsKept k before (kept_dones base ++ dones_in commits)
    → MayFollow k commit.dones × NeverFall ((kept_dones base ++ dones_in commits) ++ commit.dones)

-- once all are added, the kept ones and the floor are the history's, by the keep number under which they were added
abbrev pub KeptAreTheHistory : Type 0
KeptAreTheHistory = (c : Contents) (k : Keeping) (keep : Option ℕ) → k.keep ≡ keep → HoldsKept k (floor_in c.base) (kept_dones c.base ++ dones_in c.commits)
    → (k.dones ≡ kept (with_keep keep (history_of c))) × (k.floor ≡ floor (with_keep keep (history_of c)))

-- ---- epochs

-- the base's epoch comes first
abbrev pub EpochsBegin : Type 0
EpochsBegin = (base : ℕ) → IsNextTo (base ∷ []) (base + 1)
