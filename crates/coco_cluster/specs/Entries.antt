-- What the worlds of nodes and coordinator and the files have in common: the prepared and the committed epochs.
use Rattle.std.specs.Prelude.{◌≡◌, ℕ, ◌+◌, Bool, List, [], length, Option}
use Rattle.coco_append.specs.Gaining.{RestsOn}
use Rattle.coco_host.specs.Files.{Files}
use Rattle.coco_letters.specs.Worlds.{Arrives, IsWorld, Scene}
use Rattle.coco_members.specs.AtRest.{scene_of}
use Rattle.coco_members.specs.Opened.{HasEntries}
use Rattle.coco_members.specs.declared.members.Members.{Members}
use Rattle.coco_net.specs.declared.letter.Posted.{Posted}
use Rattle.coco_store.specs.Contents.{Contents}
use Rattle.coco_types.specs.declared.call.Piece.{Piece}
use Rattle.coco_types.specs.declared.call.Request.{Request}
use Rattle.coco_vote.specs.Preparing.{MayForce}
use Rattle.coco_vote.specs.Taking.{AreHeld, HaveLogs}
use Rattle.coco_world.specs.Steps.{IsAbove}
use Rattle.coco_world.specs.World.{World}
use Rattle.coco_cluster.specs.Standing.{StandsAt}
use Rattle.coco_cluster.specs.Stepping.{Reaches}
use Rattle.coco_cluster.specs.Trying.{ballot_on}
use Rattle.coco_cluster.specs.Turning.{HasRoom}
use Rattle.coco_cluster.specs.declared.cluster.Cluster.{Cluster}

-- behind steps this number is above all, these epochs were committed meanwhile, and the world has the entries of these contents
pub record ReachesOn (d : Contents) (next : ℕ) (added : List ℕ) (w after : World) : Type 0 where
  pub reaches : Reaches next added w after
  pub entries : HasEntries d after

-- Each world of one scene in which the one number is above all, and that has the entries of the one contents, goes on by steps to a world of the other scene in which the other number is, and that has those
-- of the other contents.
abbrev pub StepsOn : Contents → Contents → (ℕ → ℕ) → (ℕ → ℕ) → ℕ → ℕ → List ℕ → Scene → Scene → Type 0
StepsOn c d stopped stopped_new next next_new commits a b = (w : World) → IsWorld w a → IsAbove w next → HasEntries c w → Arrives stopped stopped_new (ReachesOn d next_new commits) a b w

-- So it is of a decision, with the contents that a host rests on before it and behind it, where each node may prepare the epoch.
abbrev pub DecidesEntries : {H : Type 0} → (H → Option Files) → (H → Files → Type 0) → ℕ → List Piece → (ℕ → ℕ) → (ℕ → ℕ) → Members → Members → List Posted → List Posted → H → H → Type 0
DecidesEntries reads may_leave epoch pieces stopped stopped_new k k_new sent sent_new old new = (c d : Contents) (hold : ℕ → List Bool) → AreHeld hold k.voters.items → MayForce c (ballot_on epoch pieces hold)
    → c.setting.entry.layout.nodes ≡ length k.cores.items → HaveLogs c k.voters.items → RestsOn c (reads old) (may_leave old) → RestsOn d (reads new) (may_leave new)
    → StepsOn c d stopped stopped_new epoch (epoch + 1) [] (scene_of k sent) (scene_of k_new sent_new)

-- and of an epoch that is tried, where the cluster stands at the first
abbrev pub TriesEntries : {H : Type 0} → (H → Option Files) → (H → Files → Type 0) → List Request → (ℕ → ℕ) → (ℕ → ℕ) → Cluster → Cluster → List Posted → List Posted → H → H → Type 0
TriesEntries reads may_leave requests stopped stopped_new k k_new sent sent_new old new = (c d : Contents) → RestsOn c (reads old) (may_leave old) → StandsAt c k → HasRoom c requests → RestsOn d (reads new) (may_leave new)
    → StepsOn c d stopped stopped_new k.next_epoch (k.next_epoch + 1) [] (scene_of k.members sent) (scene_of k_new.members sent_new)
