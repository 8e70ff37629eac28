-- What holds behind a decision on an epoch, and behind an epoch that was tried.
use Rattle.std.specs.Prelude.{◌≡◌, ℕ, ◌+◌, Bool, List, []}
use Rattle.coco_append.specs.Gaining.{Stands}
use Rattle.coco_ast.specs.Keyed.{Rows}
use Rattle.coco_host.specs.declared.host.Host.{Ghosts as HostGhosts}
use Rattle.coco_letters.specs.Around.{IsLater, around}
use Rattle.coco_log.specs.LogState.{LogState}
use Rattle.coco_members.specs.AtRest.{ShardsHaveMap, scene_of}
use Rattle.coco_members.specs.declared.members.Members.{Members}
use Rattle.coco_net.specs.declared.net.Net.{Ghosts as NetGhosts}
use Rattle.coco_power.specs.declared.power.Power.{Ghosts as PowerGhosts}
use Rattle.coco_trial.specs.Running.{KeepAll}
use Rattle.coco_types.specs.declared.call.Piece.{Piece}
use Rattle.coco_types.specs.declared.call.Request.{Request}
use Rattle.coco_vote.specs.Asking.{IsLater as StaysAsked}
use Rattle.coco_vote.specs.Taking.{AreReady, IsElsewhere}
use Rattle.coco_cluster.specs.Entries.{DecidesEntries, TriesEntries}
use Rattle.coco_cluster.specs.Stepping.{StepsTo, VotedForBy, VotedForIf}
use Rattle.coco_cluster.specs.Trying.{ComesOf, DecidesOn, GiveIf, GivenUpIfNot, IsGivenUpIf, LoseIfTold, StayInPlace, StaysInPlace}
use Rattle.coco_cluster.specs.declared.cluster.Cluster.{Cluster}
use Rattle.coco_cluster.specs.declared.trying.Tried.{Tried}

-- ---- a decision

-- While an epoch is decided on, whatever the answer, the shards stay as they are, and to revert all tables gives what it gave; logs in other files than the nodes' stand where they stood; nothing
-- is said, nor fails to be; no letter is forgotten and no count falls; and what a power was asked for in the epoch stays asked.
pub record StaysDeciding {H N P : Type 0} (frame : HostGhosts H) (nets : NetGhosts N) (powers : PowerGhosts P)
    (old new : Members) (host_old host_new : H) (net_old net_new : N) (power_old power_new : P) : Type 0 where
  pub shards : new.tables.shards ≡ old.tables.shards
  pub keep : (m : Rows) → KeepAll m old.tables → KeepAll m new.tables
  pub others : (other : LogState) → IsElsewhere other old.voters.items → Stands other (frame.reads host_old) (frame.may_leave host_old) → Stands other (frame.reads host_new) (frame.may_leave host_new)
  pub said : frame.said host_new ≡ frame.said host_old
  pub stream : frame.say_faults host_new ≡ frame.say_faults host_old
  pub later : IsLater (around nets powers net_old power_old) (around nets powers net_new power_new)
  pub power : StaysAsked powers power_old power_new

-- An epoch was decided on: all have voted for it, asked for stops from the first of these points on, or it was given up for a cause, by steps of nodes and coordinator that have the entries of the
-- files. Tables and entries lie where they lay, and a node has lost its tables only where a stop was told; to promote the tables gives the map behind the epoch where all have voted; and the nodes'
-- logs may be used.
pub record HasDecided {H N P : Type 0} (frame : HostGhosts H) (nets : NetGhosts N) (powers : PowerGhosts P)
    (all : Bool) (first epoch : ℕ) (pieces : List Piece)
    (old new : Members) (host_old host_new : H) (net_old net_new : N) (power_old power_new : P) : Type 0 where
  pub decides : DecidesOn all epoch (nets.sent net_new) old new
  pub cause : GivenUpIfNot all (around nets powers net_old power_old) (around nets powers net_new power_new)
  pub voted : VotedForIf all old.tables.layout epoch first (around nets powers net_old power_old) (around nets powers net_new power_new)
  pub steps : StepsTo (powers.stopped power_old) (powers.stopped power_new) epoch (epoch + 1) [] (scene_of old (nets.sent net_old)) (scene_of new (nets.sent net_new))
  pub entries : DecidesEntries frame.reads frame.may_leave epoch pieces (powers.stopped power_old) (powers.stopped power_new) old new (nets.sent net_old) (nets.sent net_new) host_old host_new
  pub places : StayInPlace old new
  pub whole : LoseIfTold (powers.stops_seen power_old) (powers.stops_seen power_new) old.voters.items new.voters.items
  pub give : GiveIf all epoch pieces old.tables new.tables
  pub ready : AreReady new.voters.items (frame.reads host_new) (frame.may_leave host_new)

-- ---- a try

-- While an epoch is tried, whatever comes of it, procedures and trace stay; logs in other files than the nodes' stand where they stood; nothing is said, nor fails to be; no letter is forgotten, and
-- no count falls.
pub record StaysTrying {H N P : Type 0} (frame : HostGhosts H) (nets : NetGhosts N) (powers : PowerGhosts P)
    (old new : Cluster) (host_old host_new : H) (net_old net_new : N) (power_old power_new : P) : Type 0 where
  pub procs : new.procs ≡ old.procs
  pub trace : new.trace ≡ old.trace
  pub others : (other : LogState) → IsElsewhere other old.members.voters.items → Stands other (frame.reads host_old) (frame.may_leave host_old) → Stands other (frame.reads host_new) (frame.may_leave host_new)
  pub said : frame.said host_new ≡ frame.said host_old
  pub stream : frame.say_faults host_new ≡ frame.say_faults host_old
  pub later : IsLater (around nets powers net_old power_old) (around nets powers net_new power_new)

-- An epoch was tried: all have voted for it as it was run from whatever map the shards had, asked for stops from the first of these points on, or it was given up for a cause, by steps of nodes and
-- coordinator that have the entries of the files. What belongs to the store stays in place, and a node has lost its tables only where a stop was told; and the nodes' logs may be used.
pub record HasTried {H N P : Type 0} (frame : HostGhosts H) (nets : NetGhosts N) (powers : PowerGhosts P)
    (tried : Tried) (first : ℕ) (requests : List Request) (workers attempts : ℕ)
    (old new : Cluster) (host_old host_new : H) (net_old net_new : N) (power_old power_new : P) : Type 0 where
  pub comes : (m : Rows) → ShardsHaveMap m old.members.tables → ComesOf tried requests workers attempts m (nets.sent net_new) old new
  pub cause : IsGivenUpIf tried (around nets powers net_old power_old) (around nets powers net_new power_new)
  pub voted : VotedForBy tried old.members.tables.layout old.next_epoch first (around nets powers net_old power_old) (around nets powers net_new power_new)
  pub steps : StepsTo (powers.stopped power_old) (powers.stopped power_new) old.next_epoch (old.next_epoch + 1) [] (scene_of old.members (nets.sent net_old)) (scene_of new.members (nets.sent net_new))
  pub entries : TriesEntries frame.reads frame.may_leave requests (powers.stopped power_old) (powers.stopped power_new) old new (nets.sent net_old) (nets.sent net_new) host_old host_new
  pub stays : StaysInPlace old new
  pub whole : LoseIfTold (powers.stops_seen power_old) (powers.stops_seen power_new) old.members.voters.items new.members.voters.items
  pub ready : AreReady new.members.voters.items (frame.reads host_new) (frame.may_leave host_new)
