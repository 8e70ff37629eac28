-- What the workers tried and what the locks closed with is an execution.
use Rattle.std.proofs.Common.{◌≡◌, ℕ, ◌+◌, ◌<◌, ◌%◌, nat_eq, List, [], ◌∷◌, ◌++◌, map, length, slice_index_or, refl, sym, ap, ◌∙◌, subst, arith}
use Rattle.std.specs.List.{AllByRecursion, filter}
use Rattle.std.proofs.lemmas.List.{length-append, length-map}
use Rattle.std.proofs.lemmas.List.Elements.{filter-append, recursion_from_All}
use Rattle.std.proofs.lemmas.List.Sums.{sum_by-cons}
use Rattle.coco_types.specs.RowKey.{RowKey}
use Rattle.coco_ast.proofs.Lists.{all_map, all_weaker}
use Rattle.coco_ast.specs.Keyed.{value_at}
use Rattle.coco_claim.specs.Numbers.{times}
use Rattle.coco_claim.specs.Seats.{Drawer, times_drawn}
use Rattle.coco_desks.proofs.StartingLemmas.{numbers_count}
use Rattle.coco_tail.specs.Shards.{shard_at}
use Rattle.coco_order.specs.Execution.{AreOf, AreTries, AreWorkedOff, Execution, IsTried, Journal, Transcript, Tries, all_at_shard, concat, concat_tries, how_many_at, journal_of, of_pass, steps_of, transcript_of}
use Rattle.coco_order.specs.Laws.{ClosedIsLawful}
use Rattle.coco_shard.specs.Law.{Entry, IsLawful, law_row}
use Rattle.coco_shard.specs.RowState.{ShardState, row_at, stable_at}
use Rattle.coco_shard.specs.Table.{key_of}
use Rattle.coco_worker.specs.Working.{IsWorkedOff, Worked, scripts_of}
use Rattle.coco_worker.specs.declared.slot.Slot.{Slot}
use Rattle.coco_parallel.specs.Ending.{HasEnded, HasWorked, Start, beginning_of, execution_of, job_of, passes_at}
use Rattle.coco_parallel.specs.Laws.{AreAnExecution, AtEachEnd, IsStart, ShardsHaveRows}
use Rattle.coco_parallel.proofs.SlotLemmas.{all_tried, drawn_tried, of_worker, transcript_is}
use Rattle.coco_shard.proofs.LawLemmas.{law_same, lawful_as}
use Rattle.coco_parallel.proofs.LockLemmas.{IsOn, Keeps, all_sent_here, as_many_passes, at_worker, by_passes, each_pass}
use Rattle.std.proofs.lemmas.Nat.{mod_below}

abbrev worker_of : Slot → ℕ
worker_of slot = slot.worker

abbrev transcript_in : Slot → Transcript
transcript_in slot = slot.transcript

-- ---- the requests that were worked off

module _ (s : Start) where
  abbrev tries_in : (slots : List Slot) → AllByRecursion (HasWorked s) slots → List (List Tries)
  tries_in [] all = []
  tries_in (slot ∷ slots) all = map (λ (w : Worked). w.tries) all.0.worked ∷ tries_in slots all.1

  transcripts_are : (slots : List Slot) (all : AllByRecursion (HasWorked s) slots) → map transcript_in slots ≡ map concat_tries (tries_in slots all)
  transcripts_are [] all = refl
  transcripts_are (slot ∷ slots) all =
      ap (λ (t : Transcript). t ∷ map transcript_in slots) (transcript_is s slot all.0) ∙ ap (λ (ts : List Transcript). scripts_of all.0.worked ∷ ts) (transcripts_are slots all.1)

  each_tries : (slots : List Slot) (all : AllByRecursion (HasWorked s) slots) → AllByRecursion (AllByRecursion (AreTries s.config.attempts)) (tries_in slots all)
  each_tries [] all = tt
  each_tries (slot ∷ slots) all = (
    all_map (λ (w : Worked). w.tries) (AreTries s.config.attempts) all.0.worked
        (all_weaker (IsWorkedOff (job_of s all.0.before.worker)) (λ w. AreTries s.config.attempts w.tries) (λ w is. is.tries) all.0.worked all.0.works.each),
    each_tries slots all.1,
  )

  how_many_append : (place : ℕ) (rs qs : List Tries) → how_many_at place (rs ++ qs) ≡ how_many_at place rs + how_many_at place qs
  how_many_append place rs qs = ap length (filter-append (λ (r : Tries). nat_eq r.place place) rs qs) ∙ length-append (filter (λ (r : Tries). nat_eq r.place place) rs) (filter (λ (r : Tries). nat_eq r.place place) qs)

  drawn_once : (place : ℕ) → place < length s.requests → (slots : List Slot) (all : AllByRecursion (HasWorked s) slots) → how_many_at place (concat (tries_in slots all)) ≡ times_drawn place (map (λ (slot : Slot). slot.seat) slots)
  drawn_once place lt [] all = refl
  drawn_once place lt (slot ∷ slots) all = omega (
    arith,
    how_many_append place (map (λ (w : Worked). w.tries) all.0.worked) (concat (tries_in slots all.1)),
    drawn_tried s slot all.0 place lt,
    sum_by-cons (λ (d : Drawer). times place d.drawn) slot.seat (map (λ (t : Slot). t.seat) slots),
    drawn_once place lt slots all.1,
  )

pub worked_off : (s : Start) (slots : List Slot) (journals : List Journal) (machines : List ShardState) → HasEnded s slots journals machines → AreWorkedOff (beginning_of s) (map transcript_in slots)
worked_off s slots journals machines ended = record {
  tries = tries_in s slots ended.worked;
  transcripts_are = transcripts_are s slots ended.worked;
  each = each_tries s slots ended.worked;
  once = λ place lt. drawn_once s place lt slots ended.worked ∙ ended.drawn place lt;
}

-- ---- the end of an epoch

module _ (closed_is_lawful : ClosedIsLawful) (s : Start) (slots : List Slot) (journals : List Journal) (machines : List ShardState) (start : IsStart s) (ended : HasEnded s slots journals machines) where
  abbrev x : Execution
  x = execution_of slots journals

  slots_count : length slots ≡ s.config.started
  slots_count = sym (length-map slots worker_of) ∙ ap length ended.workers ∙ numbers_count 0 s.config.started

  by_worker : (Q : ℕ → Transcript → Type 0) → AllByRecursion (λ slot. Q slot.worker slot.transcript) slots → (worker : ℕ) → worker < s.config.started → Q worker (transcript_of x worker)
  by_worker Q all worker lt = subst (λ w. Q w (transcript_of x worker)) (omega arith) (at_worker Q slots 0 s.config.started ended.workers all worker lt)

  scripts : (worker : ℕ) → worker < s.config.started → AllByRecursion (IsTried (beginning_of s)) (transcript_of x worker)
  scripts = by_worker (λ worker ts. AllByRecursion (IsTried (beginning_of s)) ts)
      (all_weaker (HasWorked s) (λ slot. AllByRecursion (IsTried (beginning_of s)) slot.transcript) (λ slot has. all_tried s slot has) slots ended.worked)

  attempts : (worker : ℕ) → worker < s.config.started → AreOf worker (transcript_of x worker)
  attempts = by_worker AreOf (all_weaker (HasWorked s) (λ slot. AreOf slot.worker slot.transcript) (λ slot has. of_worker s slot has) slots ended.worked)

  passes : (shard worker : ℕ) → shard < length s.shards → worker < s.config.started → of_pass worker (journal_of x shard) ≡ all_at_shard shard (transcript_of x worker)
  passes shard worker within lt =
      by_worker (λ w ts. of_pass w (journal_of x shard) ≡ all_at_shard shard ts)
      (each_pass s shard within (journal_of x shard) slots ended.worked (recursion_from_All (Keeps s shard within (journal_of x shard)) (passes_at shard slots) (ended.closed shard within).passes_are.own)) worker lt

  no_other_pass : (shard : ℕ) → shard < length s.shards → AllByRecursion (λ e. e.pass < s.config.started) (journal_of x shard)
  no_other_pass shard within =
      subst (λ (n : ℕ). AllByRecursion (λ e. e.pass < n) (journal_of x shard)) (as_many_passes s shard within (journal_of x shard) slots ended.worked ∙ slots_count)
      (recursion_from_All (λ e. e.pass < length (passes_at shard slots)) (journal_of x shard) (ended.closed shard within).passes_are.no_other)

  -- each entry is on a key of the shard's partition
  pub on_shard : (shard : ℕ) → shard < length s.shards → AllByRecursion (IsOn (length s.shards) shard) (steps_of (journal_of x shard))
  on_shard shard within =
      by_passes (IsOn (length s.shards) shard) s.config.started (journal_of x shard)
      (λ worker lt. subst (AllByRecursion (IsOn (length s.shards) shard)) (sym (passes shard worker within lt)) (all_sent_here (beginning_of s) shard (transcript_of x worker) (scripts worker lt)))
      (no_other_pass shard within)

  stable_here : (shard : ℕ) (e : Entry) → IsOn (length s.shards) shard e → stable_at (shard_at s.shards shard) (key_of e.ask.op) ≡ value_at s.opening (key_of e.ask.op)
  stable_here shard e on = ap (λ (n : ℕ). stable_at (shard_at s.shards n) (key_of e.ask.op)) (sym on) ∙ start.holds.values (key_of e.ask.op)

  abbrev pub closed_rows : (shard : ℕ) → shard < length s.shards → IsLawful (stable_at (shard_at s.shards shard)) (steps_of (journal_of x shard)) × ((k : RowKey) → row_at (shard_at machines shard) k ≡ law_row (stable_at (shard_at s.shards shard)) k (steps_of (journal_of x shard)))
  closed_rows shard within = closed_is_lawful (stable_at (shard_at s.shards shard)) (shard_at s.shards shard) (shard_at machines shard) (journal_of x shard) (start.holds.settled shard) (ended.closed shard within).replays

  lawful : (shard : ℕ) → shard < length s.shards → IsLawful (value_at s.opening) (steps_of (journal_of x shard))
  lawful shard within =
      lawful_as (stable_at (shard_at s.shards shard)) (value_at s.opening) (steps_of (journal_of x shard))
      (all_weaker (IsOn (length s.shards) shard) (λ e. stable_at (shard_at s.shards shard) (key_of e.ask.op) ≡ value_at s.opening (key_of e.ask.op)) (stable_here shard) (steps_of (journal_of x shard)) (on_shard shard within))
      (closed_rows shard within).0

pub are_an_execution : ClosedIsLawful → AtEachEnd AreAnExecution
are_an_execution law s slots journals machines start ended = record {
  some_partitions = start.some;
  fitting = start.fitting;
  shards = ended.journals_are;
  workers = length-map slots transcript_in ∙ slots_count law s slots journals machines start ended;
  lawful = lawful law s slots journals machines start ended;
  scripts = scripts law s slots journals machines start ended;
  attempts = attempts law s slots journals machines start ended;
  passes = passes law s slots journals machines start ended;
  no_other_pass = no_other_pass law s slots journals machines start ended;
  worked_off = worked_off s slots journals machines ended;
}

pub shards_have_rows : ClosedIsLawful → AtEachEnd ShardsHaveRows
shards_have_rows law s slots journals machines start ended k =
    let shard : ℕ = k.row % length s.shards in
    let within : shard < length s.shards = mod_below k.row (length s.shards) start.some in
    ap (λ (n : ℕ). row_at (shard_at machines (k.row % n)) k) ended.machines_are
    ∙ (closed_rows law s slots journals machines start ended shard within).1 k
    ∙ law_same (stable_at (shard_at s.shards shard)) (value_at s.opening) k (steps_of (slice_index_or journals shard [])) (start.holds.values k)
