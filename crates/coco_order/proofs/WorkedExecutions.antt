-- The worked execution, part by part.
use Rattle.std.proofs.Common.{◌≡◌, ◌⊎◌, inl, inr, ℕ, zero, suc, ◌<◌, ◌≤◌, Bool, true, false, cond, length, List, [], ◌∷◌, Option, None, Some, refl, sym, ap, ◌∙◌, subst, arith}
use Rattle.std.proofs.lemmas.List.Sorted.{IsPermutation-swap}
use Rattle.std.specs.List.{AllByRecursion}
use Rattle.std.specs.FinMap.{empty, get-empty}
use Rattle.coco_types.proofs.Keys.{key_itself}
use Rattle.coco_types.specs.RowKey.{RowKey, key_cmp}
use Rattle.coco_types.specs.declared.call.AttemptId.{AttemptId}
use Rattle.coco_types.specs.declared.call.Reply.TheVariants.{Ok as Answers}
use Rattle.coco_ast.proofs.Writing.{value_written}
use Rattle.coco_ast.specs.Builtins.{builtins}
use Rattle.coco_ast.specs.History.{IsBefore}
use Rattle.coco_ast.specs.Keyed.{Rows, value_at, write_at}
use Rattle.coco_ast.specs.Meaning.{Datum, run}
use Rattle.coco_shard.specs.RowState.{RowState}
use Rattle.coco_shard.specs.declared.ops.Op.{Op}
use Rattle.coco_shard.specs.declared.ops.Op.TheVariants.{Read, Lock, Extend, Install}
use Rattle.coco_shard.specs.declared.ops.Answer.{Answer}
use Rattle.coco_shard.specs.declared.ops.Answer.TheVariants.{Got, Locked, Marked, Extended, Installed}
use Rattle.coco_shard.specs.Law.{Entry, IsLawful}
use Rattle.coco_occ.specs.Exchange.{Exchange, Found}
use Rattle.coco_occ.specs.declared.outcome.Outcome.TheVariants.{Committed, Conflict}
use Rattle.coco_occ.specs.declared.outcome.Why.TheVariants as why
use Rattle.coco_order.specs.Execution.{IsTried, AreOf, IsExecution, AreWorkedOff, journal_of, transcript_of, steps_of, of_pass, all_at_shard, how_many_at, concat}
use Rattle.coco_order.specs.Outcome.{AreCommits}
use Rattle.coco_order.specs.ExecutionExamples.{x, seven, first_reader, second_reader, writer, gets, puts, beginning, reader_conflicts, reader_commits, writer_commits, execution, done, ReadIsTriedAgain}
use Rattle.coco_order.proofs.LawRows.{told_lawful}

abbrev exchange : Op → Answer → Exchange
exchange op answer = record { op = op; answer = answer }

abbrev row : ℕ → ℕ → Datum → Option AttemptId → RowState
row wts rts value mark = record { newest = value; wts = wts; rts = rts; mark = mark; stable = None }

abbrev found : ℕ → ℕ → Datum → Found
found wts rts value = record { key = x; wts = wts; rts = rts; value = value }

pub none_at : value_at empty x ≡ None
none_at = get-empty key_cmp x

abbrev written : Rows
written = write_at empty x seven

seven_at : value_at written x ≡ seven
seven_at = value_written empty x seven x ∙ ap (λ b. cond b seven (value_at empty x)) (key_itself x)

pub conflicts_tried : IsTried beginning reader_conflicts
unfolding run
conflicts_tried = record {
  request = record { id = 1; call = gets };
  writes = [];
  placed = refl;
  script = record {
    rows = empty;
    asked = exchange (Read x) (Got 0 0 None) ∷ exchange (Extend x 0 1) (Marked writer) ∷ [];
    steps = refl;
    answered = ((row 0 0 None None, refl), ((row 0 0 None (Some writer), refl), tt));
    course = record {
      reads = found 0 0 None ∷ [];
      locks = [];
      locking_conflict = None;
      extensions = exchange (Extend x 0 1) (Marked writer) ∷ [];
      extending_conflict = Some (why.Marked x writer);
      ends = [];
      parts = refl;
      reading = record { keys = refl; values = (none_at, tt) };
      locking = record { all = refl; clear = tt };
      extending = record { before = []; last = exchange (Extend x 0 1) (Marked writer); unasked = []; asked_is = refl; first = refl; clear = tt; conflicts = refl };
      ending = refl;
      outcome_is = refl;
    };
    writes_are = refl;
  };
}

reader_tried : IsTried beginning reader_commits
unfolding run
reader_tried = record {
  request = record { id = 1; call = gets };
  writes = [];
  placed = refl;
  script = record {
    rows = written;
    asked = exchange (Read x) (Got 1 1 seven) ∷ exchange (Extend x 1 2) Extended ∷ [];
    steps = refl;
    answered = ((row 1 1 seven None, refl), ((row 1 1 seven None, refl), tt));
    course = record {
      reads = found 1 1 seven ∷ [];
      locks = [];
      locking_conflict = None;
      extensions = exchange (Extend x 1 2) Extended ∷ [];
      extending_conflict = None;
      ends = [];
      parts = refl;
      reading = record { keys = refl; values = (seven_at, tt) };
      locking = record { all = refl; clear = tt };
      extending = record { all = refl; clear = (refl, tt) };
      ending = refl;
      outcome_is = ap (λ (v : Datum). Committed 2 (Answers v)) (sym seven_at);
    };
    writes_are = refl;
  };
}

pub writer_tried : IsTried beginning writer_commits
unfolding run
writer_tried = record {
  request = record { id = 2; call = puts };
  writes = record { key = x; value = seven } ∷ [];
  placed = refl;
  script = record {
    rows = empty;
    asked = exchange (Lock x) (Locked 0 0) ∷ exchange (Install x 1 seven) Installed ∷ [];
    steps = refl;
    answered = ((row 0 0 None None, refl), ((row 0 0 None (Some writer), refl), tt));
    course = record {
      reads = [];
      locks = exchange (Lock x) (Locked 0 0) ∷ [];
      locking_conflict = None;
      extensions = [];
      extending_conflict = None;
      ends = exchange (Install x 1 seven) Installed ∷ [];
      parts = refl;
      reading = record { keys = refl; values = tt };
      locking = record { all = refl; clear = (refl, tt) };
      extending = record { all = refl; clear = tt };
      ending = refl;
      outcome_is = refl;
    };
    writes_are = refl;
  };
}

lawful : IsLawful (value_at empty) (steps_of (journal_of execution 0))
lawful = told_lawful (value_at empty) [] (steps_of (journal_of execution 0)) (ap (Got 0 0) (sym none_at), (refl, (refl, (refl, (refl, (refl, tt))))))

pub below_one : (n : ℕ) → suc n < 1 → ⊥
below_one n h = omega arith

pub below_two : (n : ℕ) → suc (suc n) < 2 → ⊥
below_two n h = omega arith

pub no_conflict : {n m : ℕ} → false ≡ true → n ≡ m
no_conflict h = absurd (apart h)
  where
    apart : false ≡ true → ⊥
    apart g = cc

worked_off : AreWorkedOff beginning execution.transcripts
worked_off = record {
  tries = (record { place = 0; conflicts = reader_conflicts ∷ []; last = reader_commits } ∷ []) ∷ (record { place = 1; conflicts = []; last = writer_commits } ∷ []) ∷ [];
  transcripts_are = refl;
  each = (
    (record { placed = (refl, (refl, tt)); conflicts = (refl, tt); allowed = omega arith; used_up = no_conflict }, tt),
    ((record { placed = (refl, tt); conflicts = tt; allowed = omega arith; used_up = no_conflict }, tt), tt),
  );
  once = places;
}
  where
    places : (place : ℕ) → place < 2 → how_many_at place (concat ((record { place = 0; conflicts = reader_conflicts ∷ []; last = reader_commits } ∷ []) ∷ (record { place = 1; conflicts = []; last = writer_commits } ∷ []) ∷ [])) ≡ 1
    places zero h = refl
    places (suc zero) h = refl
    places (suc (suc n)) h = absurd (below_two n h)

is_execution : IsExecution beginning execution
is_execution = record {
  some_partitions = omega arith;
  fitting = (refl, (refl, tt));
  shards = refl;
  workers = refl;
  lawful = lawful_at;
  scripts = scripts_at;
  attempts = attempts_at;
  passes = passes_at;
  no_other_pass = others_at;
  worked_off = worked_off;
}
  where
    lawful_at : (shard : ℕ) → shard < 1 → IsLawful (value_at empty) (steps_of (journal_of execution shard))
    lawful_at zero h = lawful
    lawful_at (suc n) h = absurd (below_one n h)

    scripts_at : (worker : ℕ) → worker < 2 → AllByRecursion (IsTried beginning) (transcript_of execution worker)
    scripts_at zero h = (conflicts_tried, (reader_tried, tt))
    scripts_at (suc zero) h = (writer_tried, tt)
    scripts_at (suc (suc n)) h = absurd (below_two n h)

    attempts_at : (worker : ℕ) → worker < 2 → AreOf worker (transcript_of execution worker)
    attempts_at zero h = record { by_worker = (refl, (refl, tt)); rising = ((omega arith, tt), (tt, tt)) }
    attempts_at (suc zero) h = record { by_worker = (refl, tt); rising = (tt, tt) }
    attempts_at (suc (suc n)) h = absurd (below_two n h)

    passes_at : (shard worker : ℕ) → shard < 1 → worker < 2 → of_pass worker (journal_of execution shard) ≡ all_at_shard shard (transcript_of execution worker)
    passes_at zero zero h g = refl
    passes_at zero (suc zero) h g = refl
    passes_at zero (suc (suc n)) h g = absurd (below_two n g)
    passes_at (suc n) worker h g = absurd (below_one n h)

    others_at : (shard : ℕ) → shard < 1 → AllByRecursion (λ e. e.pass < 2) (journal_of execution shard)
    others_at zero h = (omega arith, (omega arith, (omega arith, (omega arith, (omega arith, (omega arith, tt))))))
    others_at (suc n) h = absurd (below_one n h)

in_order : AreCommits beginning 5 execution (done 2 puts 1 ∷ done 1 gets 2 ∷ [])
in_order = record {
  same = IsPermutation-swap (done 1 gets 2 ∷ done 2 puts 1 ∷ []) (done 2 puts 1 ∷ done 1 gets 2 ∷ []) 0 1 (omega arith) (omega arith) refl;
  order = ((later, tt), (tt, tt));
}
  where
    later : IsBefore (done 1 gets 2) (done 2 puts 1) → ⊥
    later (inl lt) = omega (arith, lt)
    later (inr (same, inl lt)) = omega (arith, lt)
    later (inr (same, inr (time, id))) = omega (arith, time)

pub read_is_tried_again : ReadIsTriedAgain
read_is_tried_again = record { is = is_execution; commits = in_order }
