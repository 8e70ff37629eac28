-- The scripts of the examples, each with its parts.
use Rattle.std.specs.Prelude.{◌≡◌, ℕ, ◌-◌, true, [], ◌∷◌, Option, None, Some, cond, refl}
use Rattle.std.proofs.Common.{sym, ap, ◌∙◌}
use Rattle.std.specs.FinMap.{empty, get-empty}
use Rattle.coco_types.specs.Limits.{most_time}
use Rattle.coco_types.proofs.Keys.{key_itself}
use Rattle.coco_ast.proofs.Writing.{value_written}
use Rattle.coco_types.specs.RowKey.{RowKey, key_cmp}
use Rattle.coco_types.specs.declared.call.AttemptId.{AttemptId}
use Rattle.coco_types.specs.declared.call.Cause.TheVariants.{User}
use Rattle.coco_ast.specs.Examples.{at, seven, written}
use Rattle.coco_ast.specs.Keyed.{Rows, value_at, write_at}
use Rattle.coco_ast.specs.Meaning.{Datum, run}
use Rattle.coco_shard.specs.RowState.{RowState}
use Rattle.coco_shard.specs.declared.ops.Op.{Op}
use Rattle.coco_shard.specs.declared.ops.Op.TheVariants.{Read, Lock, Extend, Install, Release, Past}
use Rattle.coco_shard.specs.declared.ops.Answer.{Answer}
use Rattle.coco_shard.specs.declared.ops.Answer.TheVariants.{Got, Locked, Marked, Changed, Extended, Installed, Released, NotMine, Stood}
use Rattle.coco_occ.specs.Exchange.{Exchange, Found}
use Rattle.coco_occ.specs.Script.{IsScript}
use Rattle.coco_occ.specs.ScriptExamples.{ScriptExamples, this, other, gets_one, gets_both, puts_both, gets_and_puts, refuses, procedures, call, asks, extend, install, eight, Gives}
use Rattle.coco_types.specs.declared.call.Reply.TheVariants.{Ok as Answers, Refused}
use Rattle.coco_occ.specs.declared.outcome.Outcome.TheVariants.{Committed, Conflict, OverTime}
use Rattle.coco_occ.specs.declared.outcome.Why.TheVariants as why

abbrev exchange : Op → Answer → Exchange
exchange op answer = record { op = op; answer = answer }

-- a row that gives an answer
abbrev resting : ℕ → ℕ → Datum → Option AttemptId → RowState
resting wts rts value mark = record { newest = value; wts = wts; rts = rts; mark = mark; stable = value }

abbrev found : RowKey → ℕ → ℕ → Datum → Found
found key wts rts value = record { key = key; wts = wts; rts = rts; value = value }

-- the map with 8 in one row
abbrev on : RowKey → Rows
on key = write_at empty key eight

none_at : (key : RowKey) → value_at empty key ≡ None
none_at key = get-empty key_cmp key

eight_at : (key : RowKey) → value_at (on key) key ≡ eight
eight_at key = value_written empty key eight key ∙ ap (λ b. cond b eight (value_at empty key)) (key_itself key)

none_beside : value_at (on (at 2)) (at 1) ≡ None
none_beside = value_written empty (at 2) eight (at 1) ∙ none_at (at 1)

read_commits : Gives gets_one (asks 1 1 Read (Got 0 0 None) ∷ asks 1 1 (extend 0 1) Extended ∷ []) (Committed 1 (Answers None)) []
unfolding run
read_commits = record {
  rows = empty;
  asked = exchange (Read (at 1)) (Got 0 0 None) ∷ exchange (Extend (at 1) 0 1) Extended ∷ [];
  steps = refl;
  answered = ((resting 0 0 None None, refl), ((resting 0 0 None None, refl), tt));
  course = record {
    reads = found (at 1) 0 0 None ∷ [];
    locks = [];
    locking_conflict = None;
    extensions = exchange (Extend (at 1) 0 1) Extended ∷ [];
    extending_conflict = None;
    ends = [];
    parts = refl;
    reading = record { keys = refl; values = (none_at (at 1), tt) };
    locking = record { all = refl; clear = tt };
    extending = record { all = refl; clear = (refl, tt) };
    ending = refl;
    outcome_is = ap (λ (v : Datum). Committed 1 (Answers v)) (sym (none_at (at 1)));
  };
  writes_are = refl;
}

read_is_changed : Gives gets_one (asks 1 1 Read (Got 0 0 None) ∷ asks 1 1 (extend 0 1) (Changed 1) ∷ []) (Conflict (why.Changed (at 1) 0 1)) []
unfolding run
read_is_changed = record {
  rows = empty;
  asked = exchange (Read (at 1)) (Got 0 0 None) ∷ exchange (Extend (at 1) 0 1) (Changed 1) ∷ [];
  steps = refl;
  answered = ((resting 0 0 None None, refl), ((resting 1 0 None None, refl), tt));
  course = record {
    reads = found (at 1) 0 0 None ∷ [];
    locks = [];
    locking_conflict = None;
    extensions = exchange (Extend (at 1) 0 1) (Changed 1) ∷ [];
    extending_conflict = Some (why.Changed (at 1) 0 1);
    ends = [];
    parts = refl;
    reading = record { keys = refl; values = (none_at (at 1), tt) };
    locking = record { all = refl; clear = tt };
    extending = record { before = []; last = exchange (Extend (at 1) 0 1) (Changed 1); unasked = []; asked_is = refl; first = refl; clear = tt; conflicts = refl };
    ending = refl;
    outcome_is = refl;
  };
  writes_are = refl;
}

read_is_marked : Gives gets_one (asks 1 1 Read (Got 0 0 None) ∷ asks 1 1 (extend 0 1) (Marked other) ∷ []) (Conflict (why.Marked (at 1) other)) []
unfolding run
read_is_marked = record {
  rows = empty;
  asked = exchange (Read (at 1)) (Got 0 0 None) ∷ exchange (Extend (at 1) 0 1) (Marked other) ∷ [];
  steps = refl;
  answered = ((resting 0 0 None None, refl), ((resting 0 0 None (Some other), refl), tt));
  course = record {
    reads = found (at 1) 0 0 None ∷ [];
    locks = [];
    locking_conflict = None;
    extensions = exchange (Extend (at 1) 0 1) (Marked other) ∷ [];
    extending_conflict = Some (why.Marked (at 1) other);
    ends = [];
    parts = refl;
    reading = record { keys = refl; values = (none_at (at 1), tt) };
    locking = record { all = refl; clear = tt };
    extending = record { before = []; last = exchange (Extend (at 1) 0 1) (Marked other); unasked = []; asked_is = refl; first = refl; clear = tt; conflicts = refl };
    ending = refl;
    outcome_is = refl;
  };
  writes_are = refl;
}

long_valid_read_is_not_extended : Gives gets_both (asks 1 1 Read (Got 0 4 None) ∷ asks 0 2 Read (Got 2 2 eight) ∷ asks 0 2 (extend 2 3) Extended ∷ []) (Committed 3 (Answers eight)) []
unfolding run
long_valid_read_is_not_extended = record {
  rows = on (at 2);
  asked = exchange (Read (at 1)) (Got 0 4 None) ∷ exchange (Read (at 2)) (Got 2 2 eight) ∷ exchange (Extend (at 2) 2 3) Extended ∷ [];
  steps = refl;
  answered = ((resting 0 4 None None, refl), ((resting 2 2 eight None, refl), ((resting 2 0 None None, refl), tt)));
  course = record {
    reads = found (at 1) 0 4 None ∷ found (at 2) 2 2 eight ∷ [];
    locks = [];
    locking_conflict = None;
    extensions = exchange (Extend (at 2) 2 3) Extended ∷ [];
    extending_conflict = None;
    ends = [];
    parts = refl;
    reading = record { keys = refl; values = (none_beside, (eight_at (at 2), tt)) };
    locking = record { all = refl; clear = tt };
    extending = record { all = refl; clear = (refl, tt) };
    ending = refl;
    outcome_is = ap (λ (v : Datum). Committed 3 (Answers v)) (sym (eight_at (at 2)));
  };
  writes_are = refl;
}

no_extension_behind_a_conflict : Gives gets_both (asks 1 1 Read (Got 0 0 None) ∷ asks 0 2 Read (Got 2 2 eight) ∷ asks 1 1 (extend 0 3) (Changed 2) ∷ []) (Conflict (why.Changed (at 1) 0 2)) []
unfolding run
no_extension_behind_a_conflict = record {
  rows = on (at 2);
  asked = exchange (Read (at 1)) (Got 0 0 None) ∷ exchange (Read (at 2)) (Got 2 2 eight) ∷ exchange (Extend (at 1) 0 3) (Changed 2) ∷ [];
  steps = refl;
  answered = ((resting 0 0 None None, refl), ((resting 2 2 eight None, refl), ((resting 2 0 None None, refl), tt)));
  course = record {
    reads = found (at 1) 0 0 None ∷ found (at 2) 2 2 eight ∷ [];
    locks = [];
    locking_conflict = None;
    extensions = exchange (Extend (at 1) 0 3) (Changed 2) ∷ [];
    extending_conflict = Some (why.Changed (at 1) 0 2);
    ends = [];
    parts = refl;
    reading = record { keys = refl; values = (none_beside, (eight_at (at 2), tt)) };
    locking = record { all = refl; clear = tt };
    extending = record { before = []; last = exchange (Extend (at 1) 0 3) (Changed 2); unasked = Extend (at 2) 2 3 ∷ []; asked_is = refl; first = refl; clear = tt; conflicts = refl };
    ending = refl;
    outcome_is = refl;
  };
  writes_are = refl;
}

writes_are_installed : Gives puts_both (asks 1 1 Lock (Locked 0 1) ∷ asks 0 2 Lock (Locked 3 4) ∷ asks 1 1 (install 5 seven) Installed ∷ asks 0 2 (install 5 eight) Installed ∷ []) (Committed 5 (Answers None)) (written 1 seven ∷ written 2 eight ∷ [])
unfolding run
writes_are_installed = record {
  rows = empty;
  asked = exchange (Lock (at 1)) (Locked 0 1) ∷ exchange (Lock (at 2)) (Locked 3 4) ∷ exchange (Install (at 1) 5 seven) Installed ∷ exchange (Install (at 2) 5 eight) Installed ∷ [];
  steps = refl;
  answered = ((resting 0 1 None None, refl), ((resting 3 4 None None, refl), ((resting 0 0 None (Some this), refl), ((resting 0 0 None (Some this), refl), tt))));
  course = record {
    reads = [];
    locks = exchange (Lock (at 1)) (Locked 0 1) ∷ exchange (Lock (at 2)) (Locked 3 4) ∷ [];
    locking_conflict = None;
    extensions = [];
    extending_conflict = None;
    ends = exchange (Install (at 1) 5 seven) Installed ∷ exchange (Install (at 2) 5 eight) Installed ∷ [];
    parts = refl;
    reading = record { keys = refl; values = tt };
    locking = record { all = refl; clear = (refl, (refl, tt)) };
    extending = record { all = refl; clear = tt };
    ending = refl;
    outcome_is = refl;
  };
  writes_are = refl;
}

first_lock_is_released : Gives puts_both (asks 1 1 Lock (Locked 0 0) ∷ asks 0 2 Lock (Marked other) ∷ asks 1 1 Release Released ∷ []) (Conflict (why.Marked (at 2) other)) (written 1 seven ∷ written 2 eight ∷ [])
unfolding run
first_lock_is_released = record {
  rows = empty;
  asked = exchange (Lock (at 1)) (Locked 0 0) ∷ exchange (Lock (at 2)) (Marked other) ∷ exchange (Release (at 1)) Released ∷ [];
  steps = refl;
  answered = ((resting 0 0 None None, refl), ((resting 0 0 None (Some other), refl), ((resting 0 0 None (Some this), refl), tt)));
  course = record {
    reads = [];
    locks = exchange (Lock (at 1)) (Locked 0 0) ∷ exchange (Lock (at 2)) (Marked other) ∷ [];
    locking_conflict = Some (why.Marked (at 2) other);
    extensions = [];
    extending_conflict = None;
    ends = exchange (Release (at 1)) Released ∷ [];
    parts = refl;
    reading = record { keys = refl; values = tt };
    locking = record { before = exchange (Lock (at 1)) (Locked 0 0) ∷ []; last = exchange (Lock (at 2)) (Marked other); unasked = []; asked_is = refl; first = refl; clear = (refl, tt); conflicts = refl };
    extending = record { all = refl; clear = tt };
    ending = refl;
    outcome_is = refl;
  };
  writes_are = refl;
}

nothing_is_locked : Gives puts_both (asks 1 1 Lock (Marked other) ∷ []) (Conflict (why.Marked (at 1) other)) (written 1 seven ∷ written 2 eight ∷ [])
unfolding run
nothing_is_locked = record {
  rows = empty;
  asked = exchange (Lock (at 1)) (Marked other) ∷ [];
  steps = refl;
  answered = ((resting 0 0 None (Some other), refl), tt);
  course = record {
    reads = [];
    locks = exchange (Lock (at 1)) (Marked other) ∷ [];
    locking_conflict = Some (why.Marked (at 1) other);
    extensions = [];
    extending_conflict = None;
    ends = [];
    parts = refl;
    reading = record { keys = refl; values = tt };
    locking = record { before = []; last = exchange (Lock (at 1)) (Marked other); unasked = Lock (at 2) ∷ []; asked_is = refl; first = refl; clear = tt; conflicts = refl };
    extending = record { all = refl; clear = tt };
    ending = refl;
    outcome_is = refl;
  };
  writes_are = refl;
}

locked_read_commits : Gives gets_and_puts (asks 1 1 Read (Got 2 6 eight) ∷ asks 1 1 Lock (Locked 2 6) ∷ asks 1 1 (install 7 seven) Installed ∷ []) (Committed 7 (Answers eight)) (written 1 seven ∷ [])
unfolding run
locked_read_commits = record {
  rows = on (at 1);
  asked = exchange (Read (at 1)) (Got 2 6 eight) ∷ exchange (Lock (at 1)) (Locked 2 6) ∷ exchange (Install (at 1) 7 seven) Installed ∷ [];
  steps = refl;
  answered = ((resting 2 6 eight None, refl), ((resting 2 6 None None, refl), ((resting 0 0 None (Some this), refl), tt)));
  course = record {
    reads = found (at 1) 2 6 eight ∷ [];
    locks = exchange (Lock (at 1)) (Locked 2 6) ∷ [];
    locking_conflict = None;
    extensions = [];
    extending_conflict = None;
    ends = exchange (Install (at 1) 7 seven) Installed ∷ [];
    parts = refl;
    reading = record { keys = refl; values = (eight_at (at 1), tt) };
    locking = record { all = refl; clear = (refl, tt) };
    extending = record { all = refl; clear = tt };
    ending = refl;
    outcome_is = ap (λ (v : Datum). Committed 7 (Answers v)) (sym (eight_at (at 1)));
  };
  writes_are = refl;
}

locked_read_is_changed : Gives gets_and_puts (asks 1 1 Read (Got 2 6 eight) ∷ asks 1 1 Lock (Locked 7 7) ∷ asks 1 1 Release Released ∷ []) (Conflict (why.Changed (at 1) 2 7)) (written 1 seven ∷ [])
unfolding run
locked_read_is_changed = record {
  rows = on (at 1);
  asked = exchange (Read (at 1)) (Got 2 6 eight) ∷ exchange (Lock (at 1)) (Locked 7 7) ∷ exchange (Release (at 1)) Released ∷ [];
  steps = refl;
  answered = ((resting 2 6 eight None, refl), ((resting 7 7 None None, refl), ((resting 0 0 None (Some this), refl), tt)));
  course = record {
    reads = found (at 1) 2 6 eight ∷ [];
    locks = exchange (Lock (at 1)) (Locked 7 7) ∷ [];
    locking_conflict = Some (why.Changed (at 1) 2 7);
    extensions = [];
    extending_conflict = None;
    ends = exchange (Release (at 1)) Released ∷ [];
    parts = refl;
    reading = record { keys = refl; values = (eight_at (at 1), tt) };
    locking = record { before = []; last = exchange (Lock (at 1)) (Locked 7 7); unasked = []; asked_is = refl; first = refl; clear = tt; conflicts = refl };
    extending = record { all = refl; clear = tt };
    ending = refl;
    outcome_is = refl;
  };
  writes_are = refl;
}

refusal_is_validated : Gives refuses (asks 1 1 Read (Got 2 2 eight) ∷ asks 1 1 (extend 2 3) Extended ∷ []) (Committed 3 (Refused (User 3))) []
unfolding run
refusal_is_validated = record {
  rows = on (at 1);
  asked = exchange (Read (at 1)) (Got 2 2 eight) ∷ exchange (Extend (at 1) 2 3) Extended ∷ [];
  steps = refl;
  answered = ((resting 2 2 eight None, refl), ((resting 2 0 None None, refl), tt));
  course = record {
    reads = found (at 1) 2 2 eight ∷ [];
    locks = [];
    locking_conflict = None;
    extensions = exchange (Extend (at 1) 2 3) Extended ∷ [];
    extending_conflict = None;
    ends = [];
    parts = refl;
    reading = record { keys = refl; values = (eight_at (at 1), tt) };
    locking = record { all = refl; clear = tt };
    extending = record { all = refl; clear = (refl, tt) };
    ending = refl;
    outcome_is = refl;
  };
  writes_are = refl;
}

greatest_time_commits : Gives gets_and_puts (asks 1 1 Read (Got 0 0 None) ∷ asks 1 1 Lock (Locked 0 (most_time - 1)) ∷ asks 1 1 (install most_time seven) Installed ∷ []) (Committed most_time (Answers None)) (written 1 seven ∷ [])
unfolding run
greatest_time_commits = record {
  rows = empty;
  asked = exchange (Read (at 1)) (Got 0 0 None) ∷ exchange (Lock (at 1)) (Locked 0 (most_time - 1)) ∷ exchange (Install (at 1) most_time seven) Installed ∷ [];
  steps = refl;
  answered = ((resting 0 0 None None, refl), ((resting 0 (most_time - 1) None None, refl), ((resting 0 0 None (Some this), refl), tt)));
  course = record {
    reads = found (at 1) 0 0 None ∷ [];
    locks = exchange (Lock (at 1)) (Locked 0 (most_time - 1)) ∷ [];
    locking_conflict = None;
    extensions = [];
    extending_conflict = None;
    ends = exchange (Install (at 1) most_time seven) Installed ∷ [];
    parts = refl;
    reading = record { keys = refl; values = (none_at (at 1), tt) };
    locking = record { all = refl; clear = (refl, tt) };
    extending = record { all = refl; clear = tt };
    ending = refl;
    outcome_is = ap (λ (v : Datum). Committed most_time (Answers v)) (sym (none_at (at 1)));
  };
  writes_are = refl;
}

time_is_too_great : Gives gets_and_puts (asks 1 1 Read (Got 0 0 None) ∷ asks 1 1 Lock (Locked 0 most_time) ∷ asks 1 1 Release Released ∷ []) OverTime (written 1 seven ∷ [])
unfolding run
time_is_too_great = record {
  rows = empty;
  asked = exchange (Read (at 1)) (Got 0 0 None) ∷ exchange (Lock (at 1)) (Locked 0 most_time) ∷ exchange (Release (at 1)) Released ∷ [];
  steps = refl;
  answered = ((resting 0 0 None None, refl), ((resting 0 most_time None None, refl), ((resting 0 0 None (Some this), refl), tt)));
  course = record {
    reads = found (at 1) 0 0 None ∷ [];
    locks = exchange (Lock (at 1)) (Locked 0 most_time) ∷ [];
    locking_conflict = None;
    extensions = [];
    extending_conflict = None;
    ends = exchange (Release (at 1)) Released ∷ [];
    parts = refl;
    reading = record { keys = refl; values = (none_at (at 1), tt) };
    locking = record { all = refl; clear = (refl, tt) };
    extending = record { all = refl; clear = tt };
    ending = refl;
    outcome_is = refl;
  };
  writes_are = refl;
}

not_mine_goes_on : Gives gets_and_puts (asks 1 1 Read (Got 0 0 None) ∷ asks 1 1 Lock (Locked 0 0) ∷ asks 1 1 (install 1 seven) (NotMine None) ∷ []) (Committed 1 (Answers None)) (written 1 seven ∷ [])
unfolding run
not_mine_goes_on = record {
  rows = empty;
  asked = exchange (Read (at 1)) (Got 0 0 None) ∷ exchange (Lock (at 1)) (Locked 0 0) ∷ exchange (Install (at 1) 1 seven) (NotMine None) ∷ [];
  steps = refl;
  answered = ((resting 0 0 None None, refl), ((resting 0 0 None None, refl), ((resting 0 0 None None, refl), tt)));
  course = record {
    reads = found (at 1) 0 0 None ∷ [];
    locks = exchange (Lock (at 1)) (Locked 0 0) ∷ [];
    locking_conflict = None;
    extensions = [];
    extending_conflict = None;
    ends = exchange (Install (at 1) 1 seven) (NotMine None) ∷ [];
    parts = refl;
    reading = record { keys = refl; values = (none_at (at 1), tt) };
    locking = record { all = refl; clear = (refl, tt) };
    extending = record { all = refl; clear = tt };
    ending = refl;
    outcome_is = ap (λ (v : Datum). Committed 1 (Answers v)) (sym (none_at (at 1)));
  };
  writes_are = refl;
}

-- what stood is in the map that the run is on
snapshot_reads_what_stood : IsScript (procedures gets_both) (call true) this 2 (asks 1 1 Past (Stood None) ∷ asks 0 2 Past (Stood eight) ∷ []) (Committed 0 (Answers eight)) []
unfolding run
snapshot_reads_what_stood = record {
  rows = on (at 2);
  asked = exchange (Past (at 1)) (Stood None) ∷ exchange (Past (at 2)) (Stood eight) ∷ [];
  steps = refl;
  answered = ((resting 0 0 None None, refl), ((resting 0 0 eight None, refl), tt));
  course = record {
    given = record { key = at 1; value = None } ∷ record { key = at 2; value = eight } ∷ [];
    parts = refl;
    keys = refl;
    values = (none_beside, (eight_at (at 2), tt));
    outcome_is = ap (λ (v : Datum). Committed 0 (Answers v)) (sym (eight_at (at 2)));
  };
  writes_are = refl;
}

pub script_examples : ScriptExamples
script_examples = record {
  read_commits = read_commits;
  read_is_changed = read_is_changed;
  read_is_marked = read_is_marked;
  long_valid_read_is_not_extended = long_valid_read_is_not_extended;
  no_extension_behind_a_conflict = no_extension_behind_a_conflict;
  writes_are_installed = writes_are_installed;
  first_lock_is_released = first_lock_is_released;
  nothing_is_locked = nothing_is_locked;
  locked_read_commits = locked_read_commits;
  locked_read_is_changed = locked_read_is_changed;
  refusal_is_validated = refusal_is_validated;
  greatest_time_commits = greatest_time_commits;
  time_is_too_great = time_is_too_great;
  not_mine_goes_on = not_mine_goes_on;
  snapshot_reads_what_stood = snapshot_reads_what_stood;
}
