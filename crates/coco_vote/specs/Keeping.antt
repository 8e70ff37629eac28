-- What a part of a vote leaves, whatever it answers.
use Rattle.std.specs.Prelude.{◌≡◌, ◌≢◌, List}
use Rattle.coco_host.specs.Files.{Become, Follows}
use Rattle.coco_host.specs.declared.host.Host.{Ghosts as HostGhosts}
use Rattle.coco_net.specs.declared.net.Net.{Ghosts as NetGhosts}
use Rattle.coco_power.specs.declared.power.Power.{Ghosts as PowerGhosts}
use Rattle.coco_append.specs.Gaining.{Stands}
use Rattle.coco_letters.specs.Turns.{SendsMore}
use Rattle.coco_letters.specs.declared.voter.Voter.{Voter}
use Rattle.coco_log.specs.LogState.{LogState, SameBut}
use Rattle.coco_vote.specs.Asking.{IsLater}
use Rattle.coco_vote.specs.Counting.{GivesOn}
use Rattle.coco_vote.specs.Taking.{IsElsewhere, KeepPlaces, SameElsewhere}

-- No letter was forgotten, and no count fell.
pub record KeepsLetters {N : Type 0} (nets : NetGhosts N) (net net_new : N) : Type 0 where
  pub sends : SendsMore (nets.sent net) (nets.sent net_new)
  pub gives : GivesOn (nets.given net) (nets.faults net) (nets.last_seed net) (nets.given net_new) (nets.faults net_new) (nets.last_seed net_new)

-- A log lies where it lay, only its file may have changed, and nothing was said.
pub record WritesLog {H : Type 0} (frame : HostGhosts H) (log log_new : LogState) (host host_new : H) : Type 0 where
  pub file : log_new.file ≡ log.file
  pub kind : log_new.kind ≡ log.kind
  pub others : (other : LogState) → other.file ≢ log.file → Stands other (frame.reads host) (frame.may_leave host) → Stands other (frame.reads host_new) (frame.may_leave host_new)
  pub read : Become (SameBut log.file) (frame.reads host) (frame.reads host_new)
  pub crash : Follows (SameBut log.file) (frame.may_leave host) (frame.may_leave host_new)
  pub said : frame.said host_new ≡ frame.said host
  pub stream : frame.say_faults host_new ≡ frame.say_faults host

-- Nodes hold what they held, only the files of their logs may have changed, nothing was said, no letter was forgotten, and no count fell.
pub record KeepsRest {H N P : Type 0} (frame : HostGhosts H) (nets : NetGhosts N) (powers : PowerGhosts P)
    (voters_old voters_new : List Voter) (host_old host_new : H) (net_old net_new : N) (power_old power_new : P) : Type 0 where
  pub places : KeepPlaces voters_old voters_new
  pub others : (other : LogState) → IsElsewhere other voters_old → Stands other (frame.reads host_old) (frame.may_leave host_old) → Stands other (frame.reads host_new) (frame.may_leave host_new)
  pub read : Become (SameElsewhere voters_old) (frame.reads host_old) (frame.reads host_new)
  pub crash : Follows (SameElsewhere voters_old) (frame.may_leave host_old) (frame.may_leave host_new)
  pub said : frame.said host_new ≡ frame.said host_old
  pub stream : frame.say_faults host_new ≡ frame.say_faults host_old
  pub later : IsLater powers power_old power_new
  pub letters : KeepsLetters nets net_old net_new
