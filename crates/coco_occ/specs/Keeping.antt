-- What an attempt keeps, while it reads and behind its reads.
use Rattle.std.specs.Prelude.{◌≡◌, ℕ, ◌+◌, ◌≤◌, Bool, true, false, List, [], ◌++◌, length, map, Option, None, Some, vec_capacity}
use Rattle.std.specs.List.{AllByRecursion}
use Rattle.coco_types.specs.Limits.{most_keys}
use Rattle.coco_types.specs.RowKey.{RowKey, partition_of}
use Rattle.coco_types.specs.declared.call.AttemptId.{AttemptId}
use Rattle.coco_types.specs.declared.call.Reply.{Reply}
use Rattle.coco_types.specs.declared.call.Reply.TheVariants.{Ok}
use Rattle.coco_types.specs.declared.call.Write.{Write}
use Rattle.coco_ast.specs.Keyed.{Rows}
use Rattle.coco_ast.specs.Meaning.{Run, run}
use Rattle.coco_eval.specs.Standing as eval
use Rattle.coco_eval.specs.declared.machine.Given.{Given}
use Rattle.coco_shard.specs.Law.{greatest}
use Rattle.coco_shard.specs.Table.{key_of}
use Rattle.coco_shard.specs.declared.ops.Op.{Op}
use Rattle.coco_shard.specs.declared.ops.Op.TheVariants.{Read, Past}
use Rattle.coco_occ.specs.Course.{seen_of, outcome_by, due_of, Stands}
use Rattle.coco_occ.specs.Exchange.{Exchange, Found, read, step_of, MayAnswer}
use Rattle.coco_occ.specs.Script.{IsSnapshot, past}
use Rattle.coco_occ.specs.Trying.{Standing, Ready, Waits, Ended}
use Rattle.coco_occ.specs.declared.course.Course.{Course}
use Rattle.coco_occ.specs.declared.course.Stage.{Stage}
use Rattle.coco_occ.specs.declared.course.Stage.TheVariants as stage
use Rattle.coco_occ.specs.declared.outcome.Outcome.TheVariants.{Committed}
use Rattle.coco_occ.specs.declared.script.Step.{Step}

-- ---- while it reads

abbrev pub given_of : Found → Given
given_of f = record { key = f.key; value = f.value }

-- how a key is read, in a snapshot call or in another
abbrev pub reading : Bool → RowKey → Op
reading true key = Past key
reading false key = Read key

pub record HasReads (given : List Given) (asked : List Exchange) (c : Course) : Type 0 where
  pub reads : List Found
  pub parts : asked ≡ map read reads
  pub given_is : map given_of reads ≡ given
  pub seen : map seen_of reads ≡ c.seen.items
  pub greatest_is : c.greatest ≡ greatest 0 (map (λ f. f.wts) reads)

abbrev pub HasAsked : Bool → List Given → List Exchange → Course → Type 0
HasAsked true given asked c = asked ≡ map past given
HasAsked false given asked c = HasReads given asked c

-- the run goes on, or waits for the value of the key that is read
abbrev pub WaitsFor : Bool → eval.Evaluation → Option Op → Type 0
WaitsFor snapshot e None = e.standing ≡ eval.Ready
WaitsFor snapshot e (Some op) = (key : RowKey) × (e.standing ≡ eval.Asks key) × (op ≡ reading snapshot key) × eval.IsSound e × (length e.given + 1 ≤ most_keys)

pub record IsReading (snapshot : Bool) (e : eval.Evaluation) (asked : List Exchange) (c : Course) (due : Option Op) : Type 0 where
  pub rows : Rows
  pub more : List RowKey
  pub has : eval.HasGiven e.given rows
  pub needs : (run e.procs e.call rows).needs ≡ eval.keys_of e.given ++ more
  pub kept : HasAsked snapshot e.given asked c
  pub waits : WaitsFor snapshot e due
  pub seen_room : most_keys ≤ vec_capacity c.seen
  pub expected_room : most_keys ≤ vec_capacity c.expected
  pub no_conflict : c.conflict ≡ None
  pub no_time : c.time ≡ None
  pub no_lock : c.locked ≡ 0

-- ---- behind its reads

pub record HasSnapshot (r : Run) (m : Rows) (asked : List Exchange) (c : Course) (due : Option Op) : Type 0 where
  pub whole : IsSnapshot r m asked (Committed 0 r.reply)
  pub ended : c.stage ≡ stage.Ended
  pub no_conflict : c.conflict ≡ None
  pub time : c.time ≡ Some 0
  pub nothing : due ≡ None

abbrev pub StandsBehind : Bool → Run → Rows → List Exchange → Course → Option Op → Type 0
StandsBehind true r m asked c due = HasSnapshot r m asked c due
StandsBehind false r m asked c due = Stands r m asked c due

pub record IsBehind (snapshot : Bool) (e : eval.Evaluation) (asked : List Exchange) (c : Course) (reply : Reply) (due : Option Op) : Type 0 where
  pub rows : Rows
  pub standing : e.standing ≡ eval.Ended reply (run e.procs e.call rows).writes
  pub reply_is : (run e.procs e.call rows).reply ≡ reply
  pub stands : StandsBehind snapshot (run e.procs e.call rows) rows asked c due

abbrev pub GoesIn : Stage → Bool → eval.Evaluation → List Exchange → Course → Reply → Option Op → Type 0
GoesIn stage.Reading snapshot e asked c reply due = IsReading snapshot e asked c due
GoesIn stage.Locking snapshot e asked c reply due = IsBehind snapshot e asked c reply due
GoesIn stage.Extending snapshot e asked c reply due = IsBehind snapshot e asked c reply due
GoesIn stage.Installing snapshot e asked c reply due = IsBehind snapshot e asked c reply due
GoesIn stage.Releasing snapshot e asked c reply due = IsBehind snapshot e asked c reply due
GoesIn stage.Ended snapshot e asked c reply due = IsBehind snapshot e asked c reply due

-- an attempt has asked these, and waits for the answer to what is due
abbrev pub Goes : Bool → eval.Evaluation → List Exchange → Course → Reply → Option Op → Type 0
Goes snapshot e asked c reply due = GoesIn c.stage snapshot e asked c reply due

-- ---- an attempt

-- the reply of a run that has ended
abbrev pub reply_in : eval.Standing → Reply
reply_in eval.Ready = Ok None
reply_in (eval.Asks key) = Ok None
reply_in (eval.Ended reply writes) = reply

abbrev pub writes_in : eval.Standing → List Write
writes_in eval.Ready = []
writes_in (eval.Asks key) = []
writes_in (eval.Ended reply writes) = writes

abbrev pub rests_in : Stage → Course → Reply → List Write → Standing
rests_in stage.Reading c reply writes = Ready
rests_in stage.Locking c reply writes = Ready
rests_in stage.Extending c reply writes = Ready
rests_in stage.Installing c reply writes = Ready
rests_in stage.Releasing c reply writes = Ready
rests_in stage.Ended c reply writes = Ended (outcome_by c.conflict c.time reply) writes

abbrev pub standing_of : Bool → AttemptId → ℕ → Op → Course → Reply → eval.Standing → Standing
standing_of true by partitions op c reply s = Waits (partition_of partitions (key_of op)) (record { by = by; op = op })
standing_of false by partitions op c reply s = rests_in c.stage c reply (writes_in s)

pub record IsAttempt (e : eval.Evaluation) (script : List Step) (by : AttemptId) (partitions : ℕ) (snapshot : Bool) (c : Course) (reply : Reply) (op : Op) (waits : Bool) : Type 0 where
  pub asked : List Exchange
  pub steps : script ≡ map (step_of by partitions) asked
  pub answered : AllByRecursion (λ s. MayAnswer s.ask s.answer) script
  pub parted : 1 ≤ partitions
  pub snapshot_is : snapshot ≡ e.call.snapshot
  pub goes : Goes snapshot e asked c reply (due_of waits op)
