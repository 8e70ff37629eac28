-- The script of an attempt, read off its finished list of asks and answers.
use Rattle.std.specs.Prelude.{◌≡◌, ℕ, suc, Bool, true, false, not, ◌&&◌, nat_lt, nat_le, if◌then◌else◌, List, [], ◌∷◌, ◌++◌, map, filter, Option, None, Some}
use Rattle.std.specs.List.{list_any, filter_map, AllByRecursion}
use Rattle.std.specs.Option.{option_or}
use Rattle.coco_types.specs.Limits.{most_time}
use Rattle.coco_types.specs.declared.call.AttemptId.{AttemptId}
use Rattle.coco_types.specs.declared.call.Call.{Call}
use Rattle.coco_types.specs.declared.call.Reply.{Reply}
use Rattle.coco_types.specs.declared.call.Write.{Write}
use Rattle.coco_ast.specs.Keyed.{Rows, value_at}
use Rattle.coco_ast.specs.Meaning.{Run, run, is_key}
use Rattle.coco_ast.specs.Tree.{Procedures}
use Rattle.coco_eval.specs.declared.machine.Given.{Given}
use Rattle.coco_eval.specs.Standing.{HasGiven, keys_of}
use Rattle.coco_shard.specs.Law.{greatest}
use Rattle.coco_shard.specs.declared.ops.Op.{Op}
use Rattle.coco_shard.specs.declared.ops.Op.TheVariants.{Lock, Extend, Install, Release, Past}
use Rattle.coco_shard.specs.declared.ops.Answer.TheVariants.{Stood}
use Rattle.coco_occ.specs.Exchange.{Exchange, Found, ops_of, step_of, read, conflict_of, shown_by, locked_by, MayAnswer}
use Rattle.coco_occ.specs.declared.script.Step.{Step}
use Rattle.coco_occ.specs.declared.outcome.Why.{Why}
use Rattle.coco_occ.specs.declared.outcome.Outcome.{Outcome}
use Rattle.coco_occ.specs.declared.outcome.Outcome.TheVariants.{Committed, Conflict, OverTime}

-- ---- asked up to the first that conflicts

-- all of the operations were asked, in order, and no answer conflicts
pub record AskedAll (conflict_of : Exchange → Option Why) (ops : List Op) (asked : List Exchange) : Type 0 where
  pub all : ops_of asked ≡ ops
  pub clear : AllByRecursion (λ e. conflict_of e ≡ None) asked

-- the first of the operations were asked, in order, and the answer to the last of them is the first that conflicts
pub record AskedTo (conflict_of : Exchange → Option Why) (ops : List Op) (asked : List Exchange) (why : Why) : Type 0 where
  pub before : List Exchange
  pub last : Exchange
  pub unasked : List Op
  pub asked_is : asked ≡ before ++ last ∷ []
  pub first : ops ≡ ops_of asked ++ unasked
  pub clear : AllByRecursion (λ e. conflict_of e ≡ None) before
  pub conflicts : conflict_of last ≡ Some why

-- the one without a conflict, or the other with this one
abbrev pub AskedUpTo : (Exchange → Option Why) → List Op → List Exchange → Option Why → Type 0
AskedUpTo conflict_of ops asked None = AskedAll conflict_of ops asked
AskedUpTo conflict_of ops asked (Some why) = AskedTo conflict_of ops asked why

-- ---- the five parts

-- First the keys that the run needs are read, in the order of first need. The run is on a map that has the values read.
pub record Reads (r : Run) (m : Rows) (reads : List Found) : Type 0 where
  pub keys : map (λ f. f.key) reads ≡ r.needs
  pub values : AllByRecursion (λ f. value_at m f.key ≡ f.value) reads

-- Second the keys that it writes are locked, ascending, up to the first that conflicts.
abbrev pub Locks : List Found → List Write → List Exchange → Option Why → Type 0
Locks reads writes locks conflict = AskedUpTo (conflict_of reads) (map (λ w. Lock w.key) writes) locks conflict

-- Third the time: the least number, at least 1, that is above every write time read and every read time that a lock showed.
abbrev pub time_of : List Found → List Exchange → ℕ
time_of reads locks = suc (greatest (greatest 0 (map (λ f. f.wts) reads)) (filter_map shown_by locks))

-- a key that is read and not written, and that was valid up to an earlier time only
abbrev pub needs_extension : ℕ → List Write → Found → Bool
needs_extension time writes f = not (list_any (λ w. is_key f.key w.key) writes) && nat_lt f.rts time

abbrev pub extension : ℕ → Found → Op
extension time f = Extend f.key f.wts time

-- Fourth, where no lock conflicted and the time isn't too great, these keys are extended to it, in the order of reading, up to the first that conflicts.
abbrev pub extensions_due : Option Why → ℕ → List Write → List Found → List Op
extensions_due (Some why) time writes reads = []
extensions_due None time writes reads = if nat_le time most_time then map (extension time) (filter (needs_extension time writes) reads) else []

abbrev pub Extends : List Found → List Write → Option Why → ℕ → List Exchange → Option Why → Type 0
Extends reads writes locked time extensions conflict = AskedUpTo (conflict_of reads) (extensions_due locked time writes reads) extensions conflict

-- a conflict, if there is one, else the time, if it isn't too great
abbrev pub outcome_of : Option Why → ℕ → Reply → Outcome
outcome_of (Some why) time reply = Conflict why
outcome_of None time reply = if nat_le time most_time then Committed time reply else OverTime

-- Fifth every write is installed at the time, in ascending order of keys; or, where the attempt doesn't commit, every key that was locked is released, in that order.
abbrev pub ends_of : Outcome → List Write → List Exchange → List Op
ends_of (Committed time reply) writes locks = map (λ w. Install w.key time w.value) writes
ends_of (Conflict why) writes locks = map (λ k. Release k) (filter_map locked_by locks)
ends_of OverTime writes locks = map (λ k. Release k) (filter_map locked_by locks)

-- ---- scripts

-- what is asked and answered at a call that isn't a snapshot call, whose run on a map is r
pub record IsTry (r : Run) (m : Rows) (asked : List Exchange) (outcome : Outcome) : Type 0 where
  pub reads : List Found
  pub locks : List Exchange
  pub locking_conflict : Option Why
  pub extensions : List Exchange
  pub extending_conflict : Option Why
  pub ends : List Exchange
  pub parts : asked ≡ map read reads ++ locks ++ extensions ++ ends
  pub reading : Reads r m reads
  pub locking : Locks reads r.writes locks locking_conflict
  pub extending : Extends reads r.writes locking_conflict (time_of reads locks) extensions extending_conflict
  pub ending : ops_of ends ≡ ends_of outcome r.writes locks
  pub outcome_is : outcome ≡ outcome_of (option_or locking_conflict extending_conflict) (time_of reads locks) r.reply

abbrev pub past : Given → Exchange
past g = record { op = Past g.key; answer = Stood g.value }

-- A snapshot call reads what stood at the keys that its run needs, in the order of first need, and commits at time 0.
pub record IsSnapshot (r : Run) (m : Rows) (asked : List Exchange) (outcome : Outcome) : Type 0 where
  pub given : List Given
  pub parts : asked ≡ map past given
  pub keys : keys_of given ≡ r.needs
  pub values : HasGiven given m
  pub outcome_is : outcome ≡ Committed 0 r.reply

abbrev pub IsAsked : Bool → Run → Rows → List Exchange → Outcome → Type 0
IsAsked true r m asked outcome = IsSnapshot r m asked outcome
IsAsked false r m asked outcome = IsTry r m asked outcome

-- The script, the outcome and the writes of an attempt at a call. Each ask is by the attempt, is sent to its key's shard, and has one of the answers that it may have.
pub record IsScript (ps : Procedures) (call : Call) (by : AttemptId) (partitions : ℕ) (script : List Step) (outcome : Outcome) (writes : List Write) : Type 0 where
  pub rows : Rows
  pub asked : List Exchange
  pub steps : script ≡ map (step_of by partitions) asked
  pub answered : AllByRecursion (λ s. MayAnswer s.ask s.answer) script
  pub course : IsAsked call.snapshot (run ps call rows) rows asked outcome
  pub writes_are : writes ≡ (run ps call rows).writes

-- what a script may begin with
pub record IsBegun (ps : Procedures) (call : Call) (by : AttemptId) (partitions : ℕ) (script : List Step) : Type 0 where
  pub rest : List Step
  pub outcome : Outcome
  pub writes : List Write
  pub whole : IsScript ps call by partitions (script ++ rest) outcome writes
