-- What a cluster holds in memory of the store in its files.
use Rattle.std.specs.Prelude.{◌≡◌, ℕ, ◌<◌, ◌≤◌, false, List, Option}
use Rattle.std.specs.List.{AllByRecursion}
use Rattle.coco_types.specs.Limits.{epochs_end, most_partitions}
use Rattle.coco_types.specs.declared.call.Done.{Done}
use Rattle.coco_ast.specs.History.{floor, kept}
use Rattle.coco_append.specs.Gaining.{IsChiefLog, Stands}
use Rattle.coco_chief.specs.Shown.{chief_of}
use Rattle.coco_entry.specs.declared.commit.Commit.{Commit}
use Rattle.coco_entry.specs.declared.prepared.Prepared.{Prepared}
use Rattle.coco_finish.specs.Finishing.{HaveMap}
use Rattle.coco_host.specs.Files.{Files}
use Rattle.coco_kept.specs.Holding.{NeverFall}
use Rattle.coco_kept.specs.Keeping.{HasDistinctIds, HoldsKept, Keeping}
use Rattle.coco_load.specs.RowMaps.{joined}
use Rattle.coco_lost.specs.Reading.{AreInFiles, CanBeRead, KnowsCommitted}
use Rattle.coco_members.specs.AtRest.{AreAtRest, NoneLost}
use Rattle.coco_members.specs.Opened.{HoldTheirs}
use Rattle.coco_members.specs.declared.members.Members.{Members}
use Rattle.coco_net.specs.declared.letter.Posted.{Posted}
use Rattle.coco_store.specs.Contents.{Contents, history_of, map_in}
use Rattle.coco_store.specs.Rules.{base_values}
use Rattle.coco_vote.specs.Taking.{AreReady, HaveLogs}
use Rattle.coco_cluster.specs.declared.cluster.Cluster.{Cluster}

-- an epoch of this number comes behind all that stand in the files
pub record IsBehindAll (c : Contents) (epoch : ℕ) : Type 0 where
  pub base : c.setting.entry.layout.base_epoch < epoch
  pub commits : AllByRecursion (λ (e : Commit). e.epoch < epoch) c.commits
  pub prepared : (n : ℕ) → n < c.setting.entry.layout.nodes → AllByRecursion (λ (e : Prepared). e.epoch < epoch) (c.prepared n)

-- A cluster has what belongs to contents, but for their rows: their procedures, kept Dones, floor and base rows, and their layout and logs; and its coordinator
-- knows just the committed epochs.
pub record BelongsTo (c : Contents) (k : Cluster) : Type 0 where
  pub procs : k.procs ≡ c.setting.tree
  pub dones : k.kept.dones ≡ kept (history_of c)
  pub floor : k.kept.floor ≡ floor (history_of c)
  pub keep : k.kept.keep ≡ c.setting.entry.keep
  pub layout : k.members.tables.layout ≡ c.setting.entry.layout
  pub base : base_values c.base ≡ joined k.base.items
  pub chief : IsChiefLog c k.members.log
  pub logs : HaveLogs c k.members.voters.items
  pub held : HoldTheirs c.setting.entry.layout k.members.voters.items
  pub commits : KnowsCommitted c (chief_of k.members.chief)

-- a cluster stands at contents: it has what belongs to them, its tables have their map, and the next epoch comes behind them
pub record StandsAt (c : Contents) (k : Cluster) : Type 0 where
  pub belongs : BelongsTo c k
  pub map : HaveMap (map_in c) k.members.tables
  pub next : IsBehindAll c k.next_epoch

-- the kept Dones are those that stay of Dones which were added epoch by epoch, all below this one; each id has one
pub record KeepsBelow (k : Keeping) (epoch : ℕ) : Type 0 where
  pub before : Option ℕ
  pub added : List Done
  pub holds : HoldsKept k before added
  pub rising : NeverFall added
  pub below : AllByRecursion (λ (d : Done). d.epoch < epoch) added
  pub once : HasDistinctIds k.dones

-- a node that stops can be read anew: its log is in the file that the layout names, which names one for each
pub record MayStop (k : Members) : Type 0 where
  pub files : AreInFiles k.tables.layout k.voters.items
  pub read : CanBeRead k

-- What holds of a cluster on every host between two epochs, with the letters that its net tells as sent: nodes and coordinator rest, no kept Done
-- is of the next epoch or a later one, which is above the base, and a node that stops can be read anew.
pub record Rests (k : Cluster) (sent : List Posted) : Type 0 where
  pub keeps : KeepsBelow k.kept k.next_epoch
  pub first : 0 < k.next_epoch
  pub end : k.next_epoch ≤ epochs_end
  pub base : k.members.tables.layout.base_epoch < k.next_epoch
  pub partitions : k.members.tables.layout.partitions ≤ most_partitions
  pub rest : AreAtRest k.next_epoch sent k.members
  pub unspent : k.members.log.spent ≡ false
  pub stops : MayStop k.members

-- so it is between two turns, where no node has lost its tables
pub record IsSound (k : Cluster) (sent : List Posted) : Type 0 where
  pub rests : Rests k sent
  pub whole : NoneLost k.members.voters.items

-- the logs of the nodes and of the coordinator stand in their files, and those of the nodes may be appended to
pub record AllStand (k : Cluster) (reads : Option Files) (may_leave : Files → Type 0) : Type 0 where
  pub chief : Stands k.members.log reads may_leave
  pub nodes : AreReady k.members.voters.items reads may_leave
