-- An attempt as its callers see it: what it has asked, and where it stands.
use Rattle.std.specs.Prelude.{◌≡◌, ℕ, Bool, true, false, List, [], ◌∷◌, ◌++◌}
use Rattle.coco_types.specs.declared.call.AttemptId.{AttemptId}
use Rattle.coco_types.specs.declared.call.Call.{Call}
use Rattle.coco_types.specs.declared.call.Write.{Write}
use Rattle.coco_ast.specs.Tree.{Procedures}
use Rattle.coco_shard.specs.declared.ops.Ask.{Ask}
use Rattle.coco_shard.specs.declared.ops.Answer.{Answer}
use Rattle.coco_occ.specs.Exchange.{MayAnswer}
use Rattle.coco_occ.specs.Script.{IsScript, IsBegun}
use Rattle.coco_occ.specs.declared.script.Step.{Step}
use Rattle.coco_occ.specs.declared.outcome.Move.{Move}
use Rattle.coco_occ.specs.declared.outcome.Move.TheVariants as move
use Rattle.coco_occ.specs.declared.outcome.Outcome.{Outcome}
use Rattle.coco_occ.specs.declared.outcome.Outcome.TheVariants.{Committed, Conflict, OverTime}

-- it can go on, waits for an answer of a shard, or has ended
pub data Standing : Type 0 where
  Ready : Standing
  Waits : ℕ → Ask → Standing
  Ended : Outcome → List Write → Standing

pub record Trying : Type 0 where
  pub procs : Procedures
  pub call : Call
  pub by : AttemptId
  pub partitions : ℕ
  pub script : List Step
  pub standing : Standing

-- the script with one more step, whose answer is awaited
abbrev pub answered : Trying → ℕ → Ask → Answer → List Step
answered t shard ask answer = t.script ++ record { shard = shard; ask = ask; answer = answer } ∷ []

-- What is asked next is what the rules ask behind the steps so far; and the end is the rules' end.
abbrev pub IsSoundAt : Trying → Standing → Type 0
IsSoundAt t Ready = IsBegun t.procs t.call t.by t.partitions t.script
IsSoundAt t (Waits shard ask) = (answer : Answer) × (MayAnswer ask answer) × IsBegun t.procs t.call t.by t.partitions (answered t shard ask answer)
IsSoundAt t (Ended outcome writes) = IsScript t.procs t.call t.by t.partitions t.script outcome writes

abbrev pub IsSound : Trying → Type 0
IsSound t = IsSoundAt t t.standing

-- what a move says of where the attempt stands behind it
abbrev pub IsMoveOf : Standing → Move → Type 0
IsMoveOf s (move.Ask shard ask) = s ≡ Waits shard ask
IsMoveOf s (move.Committed time reply) = (writes : List Write) × (s ≡ Ended (Committed time reply) writes)
IsMoveOf s (move.Conflict why) = (writes : List Write) × (s ≡ Ended (Conflict why) writes)
IsMoveOf s move.OverTime = (writes : List Write) × (s ≡ Ended OverTime writes)

abbrev pub has_ended : Standing → Bool
has_ended Ready = false
has_ended (Waits shard ask) = false
has_ended (Ended outcome writes) = true
