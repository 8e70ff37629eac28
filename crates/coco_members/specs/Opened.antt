-- Nodes and coordinator of a store that was opened.
use Rattle.std.specs.Prelude.{◌≡◌, ℕ, ◌<◌, false, nat_eq, List, [], ◌∷◌, length, replicate, None, Some}
use Rattle.std.specs.List.{slice_get}
use Rattle.std.specs.Set.{is_member}
use Rattle.coco_append.specs.Gaining.{IsChiefLog}
use Rattle.coco_chief.specs.Chief.{has}
use Rattle.coco_chief.specs.Shown.{chief_of}
use Rattle.coco_chief.specs.Table.{restarted as chief_restarted}
use Rattle.coco_append.specs.EpochEntries.{HeldBy}
use Rattle.coco_entry.specs.declared.layout.Layout.{Layout}
use Rattle.coco_letters.specs.Worlds.{IsReached, IsWorld}
use Rattle.coco_letters.specs.declared.voter.Voter.{Voter}
use Rattle.coco_log.specs.LogState.{LogState}
use Rattle.coco_node.specs.Node.{Node, greatest, restarted}
use Rattle.coco_recover.specs.declared.opening.Opened.{Opened}
use Rattle.coco_store.specs.Contents.{Contents}
use Rattle.coco_store.specs.Rules.{commit_epochs, prepared_epochs}
use Rattle.coco_vote.specs.Taking.{HaveLogs}
use Rattle.coco_world.specs.Steps.{IsAbove}
use Rattle.coco_world.specs.World.{World}
use Rattle.coco_members.specs.AtRest.{scene_of}
use Rattle.coco_members.specs.declared.members.Members.{Members}
use Rattle.coco_members.specs.declared.opened.Reopened.{Reopened}

-- ---- what is had of the opened store

-- a node with this log, which holds what the layout gives it, hasn't lost its tables, and was asked for no stop
pub record IsFirst (layout : Layout) (n : ℕ) (log : LogState) (voter : Voter) : Type 0 where
  pub log_is : voter.log ≡ log
  pub held : HeldBy layout n voter.held.items
  pub kept : voter.is_lost ≡ false
  pub unasked : voter.asked_after_vote ≡ false

-- so is one of these nodes, with the log at its place
abbrev pub IsFirstOf : Layout → List LogState → ℕ → Voter → Type 0
IsFirstOf layout logs n voter = (log : LogState) × (slice_get logs n ≡ Some log) × IsFirst layout n log voter

-- and each of them, as many as there are logs
pub record AreFirst (layout : Layout) (logs : List LogState) (voters : List Voter) : Type 0 where
  pub count : length voters ≡ length logs
  pub each : (n : ℕ) (voter : Voter) → slice_get voters n ≡ Some voter → IsFirstOf layout logs n voter

-- a core begins anew from the epoch at its node's place
abbrev pub BeginsAnew : List ℕ → ℕ → Node → Type 0
BeginsAnew numbers n core = (number : ℕ) × (slice_get numbers n ≡ Some number) × (core ≡ restarted n (number ∷ []) None)

-- so does each, and there are as many as epochs
pub record BeginAnew (numbers : List ℕ) (cores : List Node) : Type 0 where
  pub count : length cores ≡ length numbers
  pub each : (n : ℕ) (core : Node) → slice_get cores n ≡ Some core → BeginsAnew numbers n core

-- the cores begin anew from the epochs of the opened store, the logs and tables are its own, and no node is behind
pub record AreMembersOf (store : Opened) (k : Members) : Type 0 where
  pub chief : chief_of k.chief ≡ chief_restarted store.layout.nodes store.epochs.items
  pub log : k.log ≡ store.logs.chief
  pub cores : BeginAnew store.prepared.items k.cores.items
  pub voters : AreFirst store.layout store.logs.nodes.items k.voters.items
  pub layout : k.tables.layout ≡ store.layout
  pub shards : k.tables.shards.items ≡ store.shards.items
  pub copies : k.tables.copies.items ≡ store.copies.items
  pub behind : k.tables.behind.items ≡ replicate store.layout.nodes false

-- all else is handed on
pub record HandsOn (store : Opened) (now : Reopened) : Type 0 where
  pub procs : now.procs ≡ store.procs
  pub kept : now.kept ≡ store.kept
  pub next : now.next_epoch ≡ store.next_epoch
  pub keep : now.keep ≡ store.keep
  pub base : now.base.items ≡ store.base.items

-- ---- what files hold

-- the coordinator knows just the committed epochs
abbrev pub KnowsCommits : Contents → Members → Type 0
KnowsCommits c k = (e : ℕ) → (chief_of k.chief).committed e ≡ is_member nat_eq (commit_epochs c.commits) e

-- each node's core has the greatest epoch of its entries
abbrev pub HaveGreatest : Contents → List Node → Type 0
HaveGreatest c cores = (n : ℕ) (core : Node) → slice_get cores n ≡ Some core → core.durable ≡ greatest (prepared_epochs (c.prepared n))

-- each node holds what the layout gives it
abbrev pub HoldTheirs : Layout → List Voter → Type 0
HoldTheirs layout voters = (n : ℕ) (voter : Voter) → slice_get voters n ≡ Some voter → HeldBy layout n voter.held.items

-- nodes and coordinator are those of these contents: their logs, their layout, and the epochs that the cores know
pub record AreOf (c : Contents) (k : Members) : Type 0 where
  pub layout : k.tables.layout ≡ c.setting.entry.layout
  pub chief_log : IsChiefLog c k.log
  pub logs : HaveLogs c k.voters.items
  pub held : HoldTheirs c.setting.entry.layout k.voters.items
  pub commits : KnowsCommits c k
  pub greatest_is : HaveGreatest c k.cores.items

-- ---- the world

-- a world of these cores that good entries lead to, in which no letter was sent, and this number is above all
pub record BeginsWorld (next : ℕ) (k : Members) (w : World) : Type 0 where
  pub is : IsWorld w (scene_of k [])
  pub silent : w.letters ≡ []
  pub reached : IsReached w
  pub above : IsAbove w next

-- its entries are those that the files hold
pub record HasEntries (c : Contents) (w : World) : Type 0 where
  pub count : w.count ≡ c.setting.entry.layout.nodes
  pub commits : (e : ℕ) → has w.commits e ≡ is_member nat_eq (commit_epochs c.commits) e
  pub prepared : (n e : ℕ) → n < w.count → has (w.prepared n) e ≡ is_member nat_eq (prepared_epochs (c.prepared n)) e
