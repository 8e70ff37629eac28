-- One ask of an attempt with its answer: where it is sent, which answers it may have, and which of them conflict.
use Rattle.std.specs.Prelude.{◌≡◌, ℕ, nat_eq, if◌then◌else◌, List, map, Option, None, Some}
use Rattle.std.specs.List.{find}
use Rattle.coco_types.specs.RowKey.{RowKey, partition_of}
use Rattle.coco_types.specs.declared.value.Value.{Value}
use Rattle.coco_types.specs.declared.call.AttemptId.{AttemptId}
use Rattle.coco_ast.specs.Meaning.{is_key}
use Rattle.coco_shard.specs.RowState.{RowState}
use Rattle.coco_shard.specs.Table.{key_of, answer_at}
use Rattle.coco_shard.specs.declared.ops.Op.{Op}
use Rattle.coco_shard.specs.declared.ops.Op.TheVariants.{Read, Lock, Extend}
use Rattle.coco_shard.specs.declared.ops.Ask.{Ask}
use Rattle.coco_shard.specs.declared.ops.Answer.{Answer}
use Rattle.coco_shard.specs.declared.ops.Answer.TheVariants.{Got, Locked, Marked, Changed}
use Rattle.coco_occ.specs.declared.script.Step.{Step}
use Rattle.coco_occ.specs.declared.outcome.Why.{Why}
use Rattle.coco_occ.specs.declared.outcome.Why.TheVariants as why

-- an operation and its answer
pub record Exchange : Type 0 where
  pub op : Op
  pub answer : Answer

abbrev pub ops_of : List Exchange → List Op
ops_of exchanges = map (λ e. e.op) exchanges

-- the step of an attempt that an exchange is
abbrev pub step_of : AttemptId → ℕ → Exchange → Step
step_of by partitions e = record { shard = partition_of partitions (key_of e.op); ask = record { by = by; op = e.op }; answer = e.answer }

-- some row gives this answer
abbrev pub MayAnswer : Ask → Answer → Type 0
MayAnswer ask answer = (row : RowState) × (answer ≡ answer_at row ask.by ask.op)

-- ---- reads

-- a key that was read, with what was found
pub record Found : Type 0 where
  pub key : RowKey
  pub wts : ℕ
  pub rts : ℕ
  pub value : Option Value

abbrev pub read : Found → Exchange
read f = record { op = Read f.key; answer = Got f.wts f.rts f.value }

-- this attempt's read of a key, if it read it
abbrev pub read_of : List Found → RowKey → Option Found
read_of reads key = find (λ f. is_key key f.key) reads

-- ---- conflicts

-- another write time than that of the read
abbrev pub changed_since : Option Found → RowKey → ℕ → Option Why
changed_since None key found = None
changed_since (Some f) key found = if nat_eq found f.wts then None else Some (why.Changed key f.wts found)

-- why an answer to a lock or to an extension conflicts, if it does
abbrev pub conflict_of : List Found → Exchange → Option Why
conflict_of reads e = conflicts e.op e.answer where
  conflicts : Op → Answer → Option Why
  conflicts (Lock key) (Locked wts rts) = changed_since (read_of reads key) key wts
  conflicts (Lock key) (Marked holder) = Some (why.Marked key holder)
  conflicts (Extend key wts time) (Changed found) = Some (why.Changed key wts found)
  conflicts (Extend key wts time) (Marked holder) = Some (why.Marked key holder)
  conflicts op answer = None

-- ---- locks

-- the read time that a lock showed
abbrev pub shown_by : Exchange → Option ℕ
shown_by e = shown e.answer where
  shown : Answer → Option ℕ
  shown (Locked wts rts) = Some rts
  shown answer = None

-- the key, where the answer says that it is locked now
abbrev pub locked_by : Exchange → Option RowKey
locked_by e = locked e.answer where
  locked : Answer → Option RowKey
  locked (Locked wts rts) = Some (key_of e.op)
  locked answer = None
