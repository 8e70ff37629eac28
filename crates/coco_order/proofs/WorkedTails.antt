-- The worked execution whose reader is left to the tail.
use Rattle.std.proofs.Common.{◌≡◌, inl, inr, ℕ, zero, suc, ◌<◌, ◌≤◌, false, true, eqb, List, [], ◌∷◌, None, refl, sym, ap, ◌∙◌, arith}
use Rattle.std.specs.Prelude.{◌≢◌}
use Rattle.std.specs.List.{AllByRecursion}
use Rattle.std.specs.FinMap.{empty}
use Rattle.coco_ast.specs.Keyed.{value_at}
use Rattle.coco_types.specs.declared.call.AttemptId.{AttemptId}
use Rattle.coco_shard.specs.declared.ops.Op.TheVariants.{Extend}
use Rattle.coco_shard.specs.declared.ops.Answer.TheVariants.{Got}
use Rattle.coco_shard.specs.Law.{IsLawful}
use Rattle.coco_occ.specs.declared.outcome.Tried.{Tried}
use Rattle.coco_order.specs.Execution.{IsTried, AreOf, IsExecution, AreWorkedOff, Tries, journal_of, transcript_of, steps_of, of_pass, all_at_shard, how_many_at, concat}
use Rattle.coco_order.specs.ExecutionExamples.{x, first_reader, writer, beginning, reader_conflicts, writer_commits, one_attempt_each, reader_left, ReadIsLeftToTheTail}
use Rattle.coco_order.proofs.LawRows.{told_lawful}
use Rattle.coco_order.proofs.TailConflicts.{tails_conflicted}
use Rattle.coco_order.proofs.WorkedExecutions.{none_at, conflicts_tried, writer_tried, below_one, below_two, no_conflict}

-- how many attempts are allowed is nothing to a script
same_tried : (t : Tried) → IsTried beginning t → IsTried one_attempt_each t
same_tried t tried = record { request = tried.request; writes = tried.writes; placed = tried.placed; script = tried.script }

lawful : IsLawful (value_at empty) (steps_of (journal_of reader_left 0))
lawful = told_lawful (value_at empty) [] (steps_of (journal_of reader_left 0)) (ap (Got 0 0) (sym none_at), (refl, (refl, (refl, tt))))

abbrev reader_tries : Tries
reader_tries = record { place = 0; conflicts = []; last = reader_conflicts }

abbrev writer_tries : Tries
writer_tries = record { place = 1; conflicts = []; last = writer_commits }

worked_off : AreWorkedOff one_attempt_each reader_left.transcripts
worked_off = record {
  tries = (reader_tries ∷ []) ∷ (writer_tries ∷ []) ∷ [];
  transcripts_are = refl;
  each = (
    (record { placed = (refl, tt); conflicts = tt; allowed = omega arith; used_up = λ _. refl }, tt),
    ((record { placed = (refl, tt); conflicts = tt; allowed = omega arith; used_up = no_conflict }, tt), tt),
  );
  once = places;
}
  where
    places : (place : ℕ) → place < 2 → how_many_at place (concat ((reader_tries ∷ []) ∷ (writer_tries ∷ []) ∷ [])) ≡ 1
    places zero h = refl
    places (suc zero) h = refl
    places (suc (suc n)) h = absurd (below_two n h)

is_execution : IsExecution one_attempt_each reader_left
is_execution = record {
  some_partitions = omega arith;
  fitting = (refl, (refl, tt));
  shards = refl;
  workers = refl;
  lawful = lawful_at;
  scripts = scripts_at;
  attempts = attempts_at;
  passes = passes_at;
  no_other_pass = others_at;
  worked_off = worked_off;
}
  where
    lawful_at : (shard : ℕ) → shard < 1 → IsLawful (value_at empty) (steps_of (journal_of reader_left shard))
    lawful_at zero h = lawful
    lawful_at (suc n) h = absurd (below_one n h)

    scripts_at : (worker : ℕ) → worker < 2 → AllByRecursion (IsTried one_attempt_each) (transcript_of reader_left worker)
    scripts_at zero h = (same_tried reader_conflicts conflicts_tried, tt)
    scripts_at (suc zero) h = (same_tried writer_commits writer_tried, tt)
    scripts_at (suc (suc n)) h = absurd (below_two n h)

    attempts_at : (worker : ℕ) → worker < 2 → AreOf worker (transcript_of reader_left worker)
    attempts_at zero h = record { by_worker = (refl, tt); rising = (tt, tt) }
    attempts_at (suc zero) h = record { by_worker = (refl, tt); rising = (tt, tt) }
    attempts_at (suc (suc n)) h = absurd (below_two n h)

    passes_at : (shard worker : ℕ) → shard < 1 → worker < 2 → of_pass worker (journal_of reader_left shard) ≡ all_at_shard shard (transcript_of reader_left worker)
    passes_at zero zero h g = refl
    passes_at zero (suc zero) h g = refl
    passes_at zero (suc (suc n)) h g = absurd (below_two n g)
    passes_at (suc n) worker h g = absurd (below_one n h)

    others_at : (shard : ℕ) → shard < 1 → AllByRecursion (λ e. e.pass < 2) (journal_of reader_left shard)
    others_at zero h = (omega arith, (omega arith, (omega arith, (omega arith, tt))))
    others_at (suc n) h = absurd (below_one n h)

another : writer ≢ first_reader
another same = apart (ap (λ (a : AttemptId). a.worker) same)
  where
    apart : ◌≡◌ {A = ℕ} 1 0 → ⊥
    apart h = omega (arith, h)

pub read_is_left : ReadIsLeftToTheTail
read_is_left = record {
  is = is_execution;
  tail = refl;
  conflicted = (tails_conflicted one_attempt_each reader_left is_execution (omega arith)).places 0 (omega arith) refl;
  shown = record { op = Extend x 0 1; asked = inr (0, 1, refl); stands = inr (inr (inl refl)); another = another };
}
