-- An epoch that is run on a store's map, and what its entries keep there.
use Rattle.std.specs.Prelude.{◌≡◌, ⊤, ℕ, ◌+◌, ◌<◌, ◌≤◌, Bool, true, List, ◌∷◌, ◌++◌, length, Option, None, Some}
use Rattle.std.specs.List.{AllByRecursion}
use Rattle.coco_types.specs.Limits.{most_batch_lines, most_kept, most_time}
use Rattle.coco_types.specs.declared.call.Done.{Done}
use Rattle.coco_types.specs.declared.call.Piece.{Piece}
use Rattle.coco_types.specs.declared.call.Request.{Request}
use Rattle.coco_ast.specs.Fitting.{Fits}
use Rattle.coco_ast.specs.Growth.{AreNew, GrowsBy, IsEpochOf}
use Rattle.coco_ast.specs.History.{AreTimed, IsOrdered, IsSerial, RepliesAreRuns, all_dones, followed_by}
use Rattle.coco_entry.specs.declared.commit.Commit.{Commit}
use Rattle.coco_entry.specs.declared.layout.Layout.{Layout}
use Rattle.coco_entry.specs.declared.prepared.Prepared.{Prepared}
use Rattle.coco_entry.specs.declared.prepared.Row.{Row}
use Rattle.coco_entry.specs.Rows.{IsPrepared}
use Rattle.coco_store.specs.Contents.{Contents, epoch_of, history_of, map_in}
use Rattle.coco_store.specs.Laws.{HasReady, MayPrepare}
use Rattle.coco_store.specs.Placement.{IsHeldBy}
use Rattle.coco_store.specs.Rules.{IsNextCommit, IsNextEpoch, commit_epochs, prepared_epochs}
use Rattle.coco_append.specs.LastWrites.{AreLastWrites, holds}
use Rattle.coco_tail.specs.Pieces.{pieces_of}

-- without a keep number there is an end to the Dones of a store
abbrev pub HasRoomFor : Option ℕ → ℕ → Type 0
HasRoomFor None count = count ≤ most_kept
HasRoomFor (Some keep) count = ⊤

-- requests that a store may run as an epoch of this number
pub record MayRun (c : Contents) (requests : List Request) (epoch : ℕ) : Type 0 where
  pub new : AreNew (history_of c) requests
  pub fit : AllByRecursion (λ (r : Request). Fits c.setting.tree r.call) requests
  pub some : 0 < length requests
  pub few : length requests ≤ most_batch_lines
  pub room : HasRoomFor c.setting.entry.keep (length (all_dones (history_of c)) + length requests)
  pub next : IsNextEpoch c.setting.entry.layout.base_epoch (commit_epochs c.commits) epoch

-- their Dones, in the order of commit, as they are serial from the store's map
pub record AreRun (c : Contents) (requests : List Request) (epoch : ℕ) (dones : List Done) : Type 0 where
  pub each : IsEpochOf requests (record { number = epoch; dones = dones })
  pub early : AllByRecursion (λ (d : Done). d.time ≤ most_time) dones
  pub replies : RepliesAreRuns c.setting.tree (map_in c) dones
  pub times : AreTimed dones

-- a commit entry that keeps its rules, with a history that stays ordered and serial and has grown by these requests
pub record IsNextIn (c : Contents) (requests : List Request) (commit : Commit) : Type 0 where
  pub next : IsNextCommit c.setting c.base c.commits commit
  pub ordered : IsOrdered (followed_by (history_of c) (epoch_of commit))
  pub serial : IsSerial c.setting.tree (followed_by (history_of c) (epoch_of commit))
  pub grown : GrowsBy (history_of c) requests (followed_by (history_of c) (epoch_of commit))

-- ---- prepared entries

-- of the partitions, those that a node holds
pub record HeldBy (layout : Layout) (n : ℕ) (held : List Bool) : Type 0 where
  pub are : (p : ℕ) → p < layout.partitions → holds held p ≡ true → IsHeldBy layout p n
  pub all : (p : ℕ) → p < layout.partitions → IsHeldBy layout p n → holds held p ≡ true

-- what the Dones wrote, piece by piece
abbrev pub pieces_in : Contents → List Request → List Done → List Piece
pieces_in c requests dones = pieces_of c.setting.tree c.setting.entry.layout.partitions requests (map_in c) dones

-- a node's entry of their last writes keeps its rules, whatever the node prepared before
abbrev pub MayPrepareRun : Contents → List Request → ℕ → List Done → Type 0
MayPrepareRun c requests epoch dones = (n : ℕ) → n < c.setting.entry.layout.nodes → IsNextEpoch c.setting.entry.layout.base_epoch (prepared_epochs (c.prepared n)) epoch
    → (held : List Bool) → HeldBy c.setting.entry.layout n held → (rows : List Row) → AreLastWrites held (pieces_in c requests dones) rows
    → IsPrepared (record { epoch = epoch; rows = rows }) → MayPrepare c n (record { epoch = epoch; rows = rows })

-- a node whose last entry has their last writes has the epoch ready
abbrev pub HasRunReady : Contents → List Request → ℕ → List Done → Type 0
HasRunReady c requests epoch dones = (n : ℕ) → n < c.setting.entry.layout.nodes → (held : List Bool) → HeldBy c.setting.entry.layout n held
    → (rows : List Row) → AreLastWrites held (pieces_in c requests dones) rows
    → (d : Contents) → d.setting ≡ c.setting → d.base ≡ c.base → d.commits ≡ c.commits
    → (before behind : List Prepared) → d.prepared n ≡ before ++ record { epoch = epoch; rows = rows } ∷ behind
    → HasReady d (record { epoch = epoch; dones = dones }) n
