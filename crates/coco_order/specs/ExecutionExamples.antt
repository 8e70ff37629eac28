-- A small execution with its outcome: a read between another attempt's lock and install conflicts, and is tried again.
use Rattle.std.specs.Prelude.{◌≡◌, ℕ, false, List, [], ◌∷◌, Option, None, Some, pos}
use Rattle.std.specs.FinMap.{empty}
use Rattle.coco_types.specs.RowKey.{RowKey}
use Rattle.coco_types.specs.declared.value.Value.TheVariants.{Int}
use Rattle.coco_types.specs.declared.call.AttemptId.{AttemptId}
use Rattle.coco_types.specs.declared.call.Call.{Call}
use Rattle.coco_types.specs.declared.call.Done.{Done}
use Rattle.coco_types.specs.declared.call.Reply.TheVariants.{Ok as Answers}
use Rattle.coco_ast.specs.Builtins.{builtins}
use Rattle.coco_ast.specs.Meaning.{Datum}
use Rattle.coco_shard.specs.declared.ops.Op.{Op}
use Rattle.coco_shard.specs.declared.ops.Op.TheVariants.{Read, Lock, Extend, Install}
use Rattle.coco_shard.specs.declared.ops.Ask.{Ask}
use Rattle.coco_shard.specs.declared.ops.Answer.{Answer}
use Rattle.coco_shard.specs.declared.ops.Answer.TheVariants.{Got, Locked, Marked, Extended, Installed}
use Rattle.coco_journaled.specs.declared.entry.Entry.{Entry as Logged}
use Rattle.coco_occ.specs.declared.script.Step.{Step}
use Rattle.coco_occ.specs.declared.outcome.Outcome.TheVariants.{Committed, Conflict}
use Rattle.coco_occ.specs.declared.outcome.Tried.{Tried}
use Rattle.coco_occ.specs.declared.outcome.Why.TheVariants as why
use Rattle.coco_order.specs.Execution.{Beginning, Execution, IsExecution}
use Rattle.coco_order.specs.Conflicts.{HasConflicted, ShowsMark}
use Rattle.coco_order.specs.Outcome.{AreCommits, tail_requests}

-- row 1 of main
abbrev pub x : RowKey
x = record { table = 0; row = 1 }

abbrev pub seven : Datum
seven = Some (Int (pos 7))

-- get(1), twice by worker 0, and put(1, 7), by worker 1
abbrev pub first_reader : AttemptId
first_reader = record { worker = 0; number = 0 }

abbrev pub second_reader : AttemptId
second_reader = record { worker = 0; number = 1 }

abbrev pub writer : AttemptId
writer = record { worker = 1; number = 0 }

abbrev pub gets : Call
gets = record { proc_no = 0; snapshot = false; args = Some (Int (pos 1)) ∷ [] }

abbrev pub puts : Call
puts = record { proc_no = 1; snapshot = false; args = Some (Int (pos 1)) ∷ seven ∷ [] }

abbrev pub beginning : Beginning
beginning = record {
  procs = builtins;
  opening = empty;
  requests = record { id = 1; call = gets } ∷ record { id = 2; call = puts } ∷ [];
  partitions = 1;
  workers = 2;
  attempts = 2;
}

abbrev pub entry : AttemptId → Op → Answer → Logged Ask Answer
entry by op answer = record { pass = by.worker; ask = record { by = by; op = op }; answer = answer }

abbrev pub step : AttemptId → Op → Answer → Step
step by op answer = record { shard = 0; ask = record { by = by; op = op }; answer = answer }

abbrev pub reader_conflicts : Tried
reader_conflicts = record {
  place = 0;
  by = first_reader;
  script = step first_reader (Read x) (Got 0 0 None) ∷ step first_reader (Extend x 0 1) (Marked writer) ∷ [];
  outcome = Conflict (why.Marked x writer);
}

abbrev pub reader_commits : Tried
reader_commits = record {
  place = 0;
  by = second_reader;
  script = step second_reader (Read x) (Got 1 1 seven) ∷ step second_reader (Extend x 1 2) Extended ∷ [];
  outcome = Committed 2 (Answers seven);
}

abbrev pub writer_commits : Tried
writer_commits = record {
  place = 1;
  by = writer;
  script = step writer (Lock x) (Locked 0 0) ∷ step writer (Install x 1 seven) Installed ∷ [];
  outcome = Committed 1 (Answers seven);
}

abbrev pub execution : Execution
execution = record {
  journals =
      (entry first_reader (Read x) (Got 0 0 None) ∷ entry writer (Lock x) (Locked 0 0) ∷ entry first_reader (Extend x 0 1) (Marked writer)
      ∷ entry writer (Install x 1 seven) Installed ∷ entry second_reader (Read x) (Got 1 1 seven) ∷ entry second_reader (Extend x 1 2) Extended ∷ []) ∷ [];
  transcripts = (reader_conflicts ∷ reader_commits ∷ []) ∷ (writer_commits ∷ []) ∷ [];
}

abbrev pub done : ℕ → Call → ℕ → Done
done id call time = record { id = id; call = call; epoch = 5; time = time; reply = Answers seven }

-- it is an execution, and the writer's Done stands before the reader's, whose id is less
pub record ReadIsTriedAgain : Type 0 where
  pub is : IsExecution beginning execution
  pub commits : AreCommits beginning 5 execution (done 2 puts 1 ∷ done 1 gets 2 ∷ [])

-- ---- the same with one attempt allowed

abbrev pub one_attempt_each : Beginning
one_attempt_each = record {
  procs = builtins;
  opening = empty;
  requests = record { id = 1; call = gets } ∷ record { id = 2; call = puts } ∷ [];
  partitions = 1;
  workers = 2;
  attempts = 1;
}

abbrev pub reader_left : Execution
reader_left = record {
  journals =
      (entry first_reader (Read x) (Got 0 0 None) ∷ entry writer (Lock x) (Locked 0 0) ∷ entry first_reader (Extend x 0 1) (Marked writer)
      ∷ entry writer (Install x 1 seven) Installed ∷ []) ∷ [];
  transcripts = (reader_conflicts ∷ []) ∷ (writer_commits ∷ []) ∷ [];
}

-- it is an execution whose tail is the reader's request, and the journal shows the writer's mark
pub record ReadIsLeftToTheTail : Type 0 where
  pub is : IsExecution one_attempt_each reader_left
  pub tail : tail_requests one_attempt_each reader_left ≡ record { id = 1; call = gets } ∷ []
  pub conflicted : HasConflicted one_attempt_each reader_left 0
  pub shown : ShowsMark one_attempt_each reader_left first_reader x writer
