-- What an entry more makes of a store, and that files hold one store at most.
use Rattle.std.specs.Prelude.{◌≡◌, ◌≢◌, ◌⊎◌, ℕ, ◌<◌, true, List, [], ◌∷◌, ◌++◌, ◌==◌, if◌then◌else◌}
use Rattle.std.specs.List.{AllByRecursion}
use Rattle.coco_host.specs.Files.{Files}
use Rattle.coco_ast.specs.History.{IsOrdered, IsSerial, followed_by, map_of}
use Rattle.coco_ast.specs.Keyed.{put_over}
use Rattle.coco_entry.specs.declared.commit.Commit.{Commit}
use Rattle.coco_entry.specs.declared.layout.LayoutEntry.{LayoutEntry}
use Rattle.coco_entry.specs.declared.prepared.Prepared.{Prepared}
use Rattle.coco_entry.specs.Commits.{commit_bytes, IsCommit}
use Rattle.coco_entry.specs.Layouts.{is_named}
use Rattle.coco_entry.specs.Rows.{prepared_bytes, IsPrepared}
use Rattle.coco_log.specs.Grammar.{IsLog}
use Rattle.coco_log.specs.LogState.{IsBeforeOrAfter}
use Rattle.coco_store.specs.Contents.{Contents, Holds, IsGoodStore, chief_of, epoch_of, file_of, history_of, map_in, on, rows_of, writes_on}
use Rattle.coco_store.specs.Entries.{commits_kind, files_of, prepared_kind}
use Rattle.coco_store.specs.Placement.{IsHeldBy}
use Rattle.coco_store.specs.Rules.{IsNextCommit, IsNextPrepared}

-- ---- what changes in files

-- what one file is a log of, the other is; behind the last gate they may differ
abbrev pub KeepsLog : List ℕ → List ℕ → Type 0
KeepsLog old new = (kind : ℕ) (bodies : List (List ℕ)) → IsLog kind bodies old → IsLog kind bodies new

-- the files that a layout names keep their logs
abbrev pub KeepLogs : LayoutEntry → Files → Files → Type 0
KeepLogs entry old new = (n : ℕ) → is_named (files_of entry) n ≡ true → KeepsLog (old n) (new n)

-- all files do
abbrev pub KeepAllLogs : Files → Files → Type 0
KeepAllLogs old new = (n : ℕ) → KeepsLog (old n) (new n)

-- the log in one of the files, of these entries, becomes such a one; of the others these keep theirs
pub record IsAppend (Becomes : ℕ → List (List ℕ) → List ℕ → List ℕ → Type 0) (Kept : ℕ → Type 0) (file kind : ℕ) (body : List ℕ) (old new : Files) : Type 0 where
  pub bodies : List (List ℕ)
  pub was : IsLog kind bodies (old file)
  pub is : Becomes kind bodies body (new file)
  pub others : (n : ℕ) → Kept n → n ≢ file → KeepsLog (old n) (new n)

abbrev pub WithOne : ℕ → List (List ℕ) → List ℕ → List ℕ → Type 0
WithOne kind bodies body file = IsLog kind (bodies ++ body ∷ []) file

-- it gains an entry, and the others that a layout names keep their logs
abbrev pub GainsOne : LayoutEntry → ℕ → ℕ → List ℕ → Files → Files → Type 0
GainsOne entry = IsAppend WithOne (λ n. is_named (files_of entry) n ≡ true)

-- a crash within an append leaves the entries from before, or these and the new one
abbrev pub MayGainOne : LayoutEntry → ℕ → ℕ → List ℕ → Files → Files → Type 0
MayGainOne entry = IsAppend IsBeforeOrAfter (λ n. is_named (files_of entry) n ≡ true)

-- the same where all the others keep theirs
abbrev pub GainsEntry : ℕ → ℕ → List ℕ → Files → Files → Type 0
GainsEntry = IsAppend WithOne (λ n. Unit {0})

abbrev pub MayGainEntry : ℕ → ℕ → List ℕ → Files → Files → Type 0
MayGainEntry = IsAppend IsBeforeOrAfter (λ n. Unit {0})

-- ---- one entry more

abbrev pub with_prepared : ℕ → Prepared → Contents → Contents
with_prepared n entry c = record c { prepared = λ m. if m == n then c.prepared m ++ entry ∷ [] else c.prepared m }

-- nothing is refused in a prepared entry of a node, and its epoch is above the history's
pub record MayPrepare (c : Contents) (n : ℕ) (entry : Prepared) : Type 0 where
  pub node : n < c.setting.entry.layout.nodes
  pub is : IsPrepared entry
  pub next : IsNextPrepared c.setting n (c.prepared n) entry
  pub above : AllByRecursion (λ e. e.epoch < entry.epoch) c.commits

-- a prepared entry keeps the store, and its history
abbrev pub AfterPrepared : Type 0
AfterPrepared = (old new : Files) (c : Contents) (n : ℕ) (entry : Prepared) → IsGoodStore old c → MayPrepare c n entry
    → GainsOne c.setting.entry (file_of c.setting n) prepared_kind (prepared_bytes entry) old new
    → IsGoodStore new (with_prepared n entry c) × (history_of (with_prepared n entry c) ≡ history_of c)

-- so does an append of one at each moment
abbrev pub WhilePrepared : Type 0
WhilePrepared = (old new : Files) (c : Contents) (n : ℕ) (entry : Prepared) → IsGoodStore old c → MayPrepare c n entry
    → MayGainOne c.setting.entry (file_of c.setting n) prepared_kind (prepared_bytes entry) old new
    → IsGoodStore new c ⊎ IsGoodStore new (with_prepared n entry c)

abbrev pub with_commit : Commit → Contents → Contents
with_commit commit c = record c { commits = c.commits ++ commit ∷ [] }

-- a node has prepared an epoch, with rows that make the map from one to the other in each partition that it holds
pub record HasReady (c : Contents) (commit : Commit) (n : ℕ) : Type 0 where
  pub before : List Prepared
  pub entry : Prepared
  pub behind : List Prepared
  pub there : c.prepared n ≡ before ++ entry ∷ behind
  pub epoch : entry.epoch ≡ commit.epoch
  pub rows : (p : ℕ) → p < c.setting.entry.layout.partitions → IsHeldBy c.setting.entry.layout p n
      → put_over (on c.setting p (map_in c)) (writes_on c.setting p entry.rows) ≡ on c.setting p (map_of c.setting.tree (followed_by (history_of c) (epoch_of commit)))

-- nothing is refused in a commit entry, its epoch goes on with the history, and all nodes have it ready
pub record MayCommit (c : Contents) (commit : Commit) : Type 0 where
  pub is : IsCommit commit
  pub next : IsNextCommit c.setting c.base c.commits commit
  pub ordered : IsOrdered (followed_by (history_of c) (epoch_of commit))
  pub serial : IsSerial c.setting.tree (followed_by (history_of c) (epoch_of commit))
  pub ready : (n : ℕ) → n < c.setting.entry.layout.nodes → HasReady c commit n

-- a commit entry adds its epoch to the history
abbrev pub AfterCommit : Type 0
AfterCommit = (old new : Files) (c : Contents) (commit : Commit) → IsGoodStore old c → MayCommit c commit
    → GainsOne c.setting.entry (chief_of c.setting) commits_kind (commit_bytes commit) old new
    → IsGoodStore new (with_commit commit c) × (history_of (with_commit commit c) ≡ followed_by (history_of c) (epoch_of commit))

-- at each moment of an append of one there is the old history or the new one
abbrev pub WhileCommitted : Type 0
WhileCommitted = (old new : Files) (c : Contents) (commit : Commit) → IsGoodStore old c → MayCommit c commit
    → MayGainOne c.setting.entry (chief_of c.setting) commits_kind (commit_bytes commit) old new
    → IsGoodStore new c ⊎ IsGoodStore new (with_commit commit c)

-- ---- what files say

-- behind the last gates, and in files that the layout doesn't name, anything may stand
abbrev pub BehindGates : Type 0
BehindGates = (old new : Files) (c : Contents) → KeepLogs c.setting.entry old new → IsGoodStore old c → IsGoodStore new c

-- the same store is in both
pub record AreSame (c d : Contents) : Type 0 where
  pub earlier : c.earlier ≡ d.earlier
  pub setting : c.setting ≡ d.setting
  pub base : c.base ≡ d.base
  pub commits : c.commits ≡ d.commits
  pub prepared : (n : ℕ) → n < c.setting.entry.layout.nodes → c.prepared n ≡ d.prepared n
  pub history : history_of c ≡ history_of d
  pub rows : (n p : ℕ) → n < c.setting.entry.layout.nodes → rows_of c n p ≡ rows_of d n p

-- files hold one store at most
abbrev pub OneContents : Type 0
OneContents = (files : Files) (c d : Contents) → Holds files c → Holds files d → AreSame c d
