-- Scripts of small calls with their outcomes: each is as the rules give it, one step after another.
use Rattle.std.specs.Prelude.{ℕ, ◌-◌, Bool, true, false, List, [], ◌∷◌, codes, pos, None, Some}
use Rattle.coco_types.specs.Limits.{most_time}
use Rattle.coco_types.specs.RowKey.{RowKey}
use Rattle.coco_types.specs.declared.call.AttemptId.{AttemptId}
use Rattle.coco_types.specs.declared.call.Call.{Call}
use Rattle.coco_types.specs.declared.call.Cause.TheVariants.{User}
use Rattle.coco_types.specs.declared.call.Reply.TheVariants.{Ok as Answers, Refused}
use Rattle.coco_types.specs.declared.call.Write.{Write}
use Rattle.coco_types.specs.declared.value.Value.TheVariants.{Int}
use Rattle.coco_ast.specs.Examples.{number, row, reads, replies_x, at, written, seven}
use Rattle.coco_ast.specs.Meaning.{Datum}
use Rattle.coco_ast.specs.Tree.{Statements, End, Then, Put, Refuse, Procedures}
use Rattle.coco_shard.specs.declared.ops.Op.{Op}
use Rattle.coco_shard.specs.declared.ops.Op.TheVariants.{Read, Lock, Extend, Install, Release, Past}
use Rattle.coco_shard.specs.declared.ops.Answer.{Answer}
use Rattle.coco_shard.specs.declared.ops.Answer.TheVariants.{Got, Locked, Marked, Changed, Extended, Installed, Released, NotMine, Stood}
use Rattle.coco_occ.specs.Script.{IsScript}
use Rattle.coco_occ.specs.declared.script.Step.{Step}
use Rattle.coco_occ.specs.declared.outcome.Outcome.{Outcome}
use Rattle.coco_occ.specs.declared.outcome.Outcome.TheVariants.{Committed, Conflict, OverTime}
use Rattle.coco_occ.specs.declared.outcome.Why.TheVariants as why

-- ---- the attempt, and another one

abbrev pub this : AttemptId
this = record { worker = 3; number = 7 }

abbrev pub other : AttemptId
other = record { worker = 4; number = 9 }

-- ---- a call of a procedure without parameters, on two partitions

abbrev pub procedures : Statements → Procedures
procedures body = record { tables = codes "t" ∷ []; procs = record { name = codes "p"; params = []; body = body } ∷ [] }

abbrev pub call : Bool → Call
call snapshot = record { proc_no = 0; args = []; snapshot = snapshot }

-- an ask of row n and its answer; the row is in the partition that stands first
abbrev pub asks : ℕ → ℕ → (RowKey → Op) → Answer → Step
asks shard n op answer = record { shard = shard; ask = record { by = this; op = op (at n) }; answer = answer }

abbrev pub extend : ℕ → ℕ → RowKey → Op
extend wts time key = Extend key wts time

abbrev pub install : ℕ → Datum → RowKey → Op
install time value key = Install key time value

abbrev pub Gives : Statements → List Step → Outcome → List Write → Type 0
Gives body script outcome writes = IsScript (procedures body) (call false) this 2 script outcome writes

abbrev pub eight : Datum
eight = Some (Int (pos 8))

-- let x = get t[1]; reply x;
abbrev pub gets_one : Statements
gets_one = reads 1 replies_x

-- let x = get t[1]; let x = get t[2]; reply x;
abbrev pub gets_both : Statements
gets_both = reads 1 (reads 2 replies_x)

-- put t[2] = 8; put t[1] = 7; reply x;
abbrev pub puts_both : Statements
puts_both = Then (Put (row (number 2)) (number 8)) (Then (Put (row (number 1)) (number 7)) replies_x)

-- let x = get t[1]; put t[1] = 7; reply x;
abbrev pub gets_and_puts : Statements
gets_and_puts = reads 1 (Then (Put (row (number 1)) (number 7)) replies_x)

-- let x = get t[1]; put t[2] = 8; refuse 3;
abbrev pub refuses : Statements
refuses = reads 1 (Then (Put (row (number 2)) (number 8)) (Then (Refuse 3) End))

pub record ScriptExamples : Type 0 where
  -- a read is extended to the time 1 where its row was never written, and commits
  pub read_commits :
      Gives gets_one (asks 1 1 Read (Got 0 0 None) ∷ asks 1 1 (extend 0 1) Extended ∷ []) (Committed 1 (Answers None)) []
  -- it conflicts where the row was written since, or has another's mark
  pub read_is_changed :
      Gives gets_one (asks 1 1 Read (Got 0 0 None) ∷ asks 1 1 (extend 0 1) (Changed 1) ∷ []) (Conflict (why.Changed (at 1) 0 1)) []
  pub read_is_marked :
      Gives gets_one (asks 1 1 Read (Got 0 0 None) ∷ asks 1 1 (extend 0 1) (Marked other) ∷ []) (Conflict (why.Marked (at 1) other)) []
  -- the time is above every write time read, and a read that was valid up to a later time isn't extended
  pub long_valid_read_is_not_extended :
      Gives gets_both (asks 1 1 Read (Got 0 4 None) ∷ asks 0 2 Read (Got 2 2 eight) ∷ asks 0 2 (extend 2 3) Extended ∷ []) (Committed 3 (Answers eight)) []
  -- the first extension that conflicts is the last step
  pub no_extension_behind_a_conflict :
      Gives gets_both (asks 1 1 Read (Got 0 0 None) ∷ asks 0 2 Read (Got 2 2 eight) ∷ asks 1 1 (extend 0 3) (Changed 2) ∷ []) (Conflict (why.Changed (at 1) 0 2)) []
  -- locks go by ascending keys, whatever the order of the puts. The time is above each read time that they show
  pub writes_are_installed :
      Gives puts_both (asks 1 1 Lock (Locked 0 1) ∷ asks 0 2 Lock (Locked 3 4) ∷ asks 1 1 (install 5 seven) Installed ∷ asks 0 2 (install 5 eight) Installed ∷ [])
      (Committed 5 (Answers None)) (written 1 seven ∷ written 2 eight ∷ [])
  -- a mark at the second lock releases the first key and no other
  pub first_lock_is_released :
      Gives puts_both (asks 1 1 Lock (Locked 0 0) ∷ asks 0 2 Lock (Marked other) ∷ asks 1 1 Release Released ∷ [])
      (Conflict (why.Marked (at 2) other)) (written 1 seven ∷ written 2 eight ∷ [])
  -- a mark at the first lock leaves nothing to release
  pub nothing_is_locked :
      Gives puts_both (asks 1 1 Lock (Marked other) ∷ []) (Conflict (why.Marked (at 1) other)) (written 1 seven ∷ written 2 eight ∷ [])
  -- a key that is read and written is locked and not extended; where the lock shows another write time it is released
  pub locked_read_commits :
      Gives gets_and_puts (asks 1 1 Read (Got 2 6 eight) ∷ asks 1 1 Lock (Locked 2 6) ∷ asks 1 1 (install 7 seven) Installed ∷ [])
      (Committed 7 (Answers eight)) (written 1 seven ∷ [])
  pub locked_read_is_changed :
      Gives gets_and_puts (asks 1 1 Read (Got 2 6 eight) ∷ asks 1 1 Lock (Locked 7 7) ∷ asks 1 1 Release Released ∷ [])
      (Conflict (why.Changed (at 1) 2 7)) (written 1 seven ∷ [])
  -- a refusal has no writes, but its reads are extended
  pub refusal_is_validated :
      Gives refuses (asks 1 1 Read (Got 2 2 eight) ∷ asks 1 1 (extend 2 3) Extended ∷ []) (Committed 3 (Refused (User 3))) []
  -- the time may be the greatest one, and no greater
  pub greatest_time_commits :
      Gives gets_and_puts (asks 1 1 Read (Got 0 0 None) ∷ asks 1 1 Lock (Locked 0 (most_time - 1)) ∷ asks 1 1 (install most_time seven) Installed ∷ [])
      (Committed most_time (Answers None)) (written 1 seven ∷ [])
  pub time_is_too_great :
      Gives gets_and_puts (asks 1 1 Read (Got 0 0 None) ∷ asks 1 1 Lock (Locked 0 most_time) ∷ asks 1 1 Release Released ∷ []) OverTime (written 1 seven ∷ [])
  -- a mark that went away is no reason to conflict
  pub not_mine_goes_on :
      Gives gets_and_puts (asks 1 1 Read (Got 0 0 None) ∷ asks 1 1 Lock (Locked 0 0) ∷ asks 1 1 (install 1 seven) (NotMine None) ∷ [])
      (Committed 1 (Answers None)) (written 1 seven ∷ [])
  -- a snapshot call asks for what stood, and commits at time 0
  pub snapshot_reads_what_stood :
      IsScript (procedures gets_both) (call true) this 2 (asks 1 1 Past (Stood None) ∷ asks 0 2 Past (Stood eight) ∷ []) (Committed 0 (Answers eight)) []
