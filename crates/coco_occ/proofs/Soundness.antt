-- What an attempt has asked begins a script of the rules, and is one where it has ended.
use Rattle.std.proofs.Common.{◌≡◌, ℕ, Bool, true, false, List, [], ◌∷◌, ◌++◌, map, Option, None, Some, refl, sym, ap, ◌∙◌, subst}
use Rattle.std.specs.Bool.{⊤}
use Rattle.std.specs.List.{AllByRecursion}
use Rattle.std.proofs.lemmas.List.{map-append, append_assoc, append-nil}
use Rattle.coco_types.specs.RowKey.{RowKey}
use Rattle.coco_types.specs.declared.call.AttemptId.{AttemptId}
use Rattle.coco_types.specs.declared.call.Reply.{Reply}
use Rattle.coco_ast.specs.Keyed.{Rows, value_at}
use Rattle.coco_ast.specs.Meaning.{Run, run}
use Rattle.coco_ast.proofs.Lists.{all_append}
use Rattle.coco_eval.specs.Standing as eval
use Rattle.coco_eval.specs.declared.machine.Given.{Given}
use Rattle.coco_shard.specs.declared.ops.Op.{Op}
use Rattle.coco_shard.specs.declared.ops.Answer.{Answer}
use Rattle.coco_shard.specs.declared.ops.Answer.TheVariants.{Stood}
use Rattle.coco_occ.specs.Course.{exchange, outcome_by, HasEnded, IsEnding, StandsIn}
use Rattle.coco_occ.specs.Exchange.{Exchange, step_of, MayAnswer}
use Rattle.coco_occ.specs.Keeping.{reading, IsReading, HasSnapshot, IsBehind, StandsBehind, GoesIn, Goes, writes_in}
use Rattle.coco_occ.specs.Script.{IsTry, IsSnapshot, IsAsked, IsScript, IsBegun, past}
use Rattle.coco_occ.specs.declared.course.Course.{Course}
use Rattle.coco_occ.specs.declared.course.Stage.{Stage}
use Rattle.coco_occ.specs.declared.course.Stage.TheVariants as stage
use Rattle.coco_occ.specs.declared.outcome.Outcome.{Outcome}
use Rattle.coco_occ.specs.declared.outcome.Outcome.TheVariants.{Committed}
use Rattle.coco_occ.specs.declared.script.Step.{Step}
use Rattle.coco_occ.proofs.Begun.{Fits, StartsWith, GoesOn, IsRead, ending_goes_on, extending_goes_on, locking_goes_on, reading_goes_on}
use Rattle.coco_occ.proofs.AttemptLemmas.{asked_for, found_keys, found_values}

-- what was asked goes on to all that is asked at a call
record Completes (snapshot : Bool) (r : Run) (m : Rows) (by : AttemptId) (asked : List Exchange) (due : Option Op) : Type 0 where
  rest : List Exchange
  outcome : Outcome
  fit : AllByRecursion (Fits by) rest
  starts : StartsWith due rest
  whole : IsAsked snapshot r m (asked ++ rest) outcome

try_completes : (r : Run) (m : Rows) (by : AttemptId) (asked : List Exchange) (due : Option Op) → GoesOn r m by asked due → Completes false r m by asked due
try_completes r m by asked due g = record { rest = g.rest; outcome = g.outcome; fit = g.fit; starts = g.starts; whole = g.whole }

-- the first of the keys is the one that is due
abbrev IsReadAs : Bool → Option Op → List RowKey → Type 0
IsReadAs snapshot None ks = ⊤
IsReadAs snapshot (Some op) ks = (k : RowKey) × (more : List RowKey) × (ks ≡ k ∷ more) × (op ≡ reading snapshot k)

-- ---- snapshot calls

stood_in : Rows → RowKey → Given
stood_in m key = record { key = key; value = value_at m key }

stood_keys : (m : Rows) (ks : List RowKey) → eval.keys_of (map (stood_in m) ks) ≡ ks
unfolding stood_in
stood_keys m [] = refl
stood_keys m (k ∷ ks) = ap (λ l. k ∷ l) (stood_keys m ks)

stood_values : (m : Rows) (ks : List RowKey) → eval.HasGiven (map (stood_in m) ks) m
unfolding stood_in
stood_values m [] = tt
stood_values m (k ∷ ks) = (refl, stood_values m ks)

stood_fit : (by : AttemptId) (gs : List Given) → AllByRecursion (Fits by) (map past gs)
stood_fit by [] = tt
stood_fit by (g ∷ gs) = ((record { newest = None; wts = 0; rts = 0; mark = None; stable = g.value }, refl), stood_fit by gs)

due_stood : (m : Rows) (due : Option Op) (ks : List RowKey) → IsReadAs true due ks → StartsWith due (map past (map (stood_in m) ks))
unfolding stood_in
due_stood m None ks is = tt
due_stood m (Some op) ks is =
    subst (λ (o : Op). StartsWith (Some o) (map past (map (stood_in m) ks))) (sym is.3)
    (Stood (value_at m is.0), map past (map (stood_in m) is.1), ap (λ l. map past (map (stood_in m) l)) is.2)

snapshot_completes : (r : Run) (m : Rows) (by : AttemptId) (asked : List Exchange) (due : Option Op) (given : List Given) (left : List RowKey) →
    asked ≡ map past given → eval.keys_of given ++ left ≡ r.needs → eval.HasGiven given m → IsReadAs true due left → Completes true r m by asked due
snapshot_completes r m by asked due given left parts keys has is =
    let more = map (stood_in m) left in
    record {
      rest = map past more;
      outcome = Committed 0 r.reply;
      fit = stood_fit by more;
      starts = due_stood m due left is;
      whole = record {
        given = given ++ more;
        parts = ap (λ l. l ++ map past more) parts ∙ sym (map-append past given more);
        keys = map-append (λ (g : Given). g.key) given more ∙ ap (λ l. eval.keys_of given ++ l) (stood_keys m left) ∙ keys;
        values = all_append (λ g. value_at m g.key ≡ g.value) given more has (stood_values m left);
        outcome_is = refl;
      };
    }

snapshot_whole : (r : Run) (m : Rows) (by : AttemptId) (asked : List Exchange) (c : Course) (due : Option Op) → HasSnapshot r m asked c due → Completes true r m by asked due
snapshot_whole r m by asked c due h = record {
  rest = [];
  outcome = Committed 0 r.reply;
  fit = tt;
  starts = subst (λ (o : Option Op). StartsWith o []) (sym h.nothing) tt;
  whole = subst (λ (l : List Exchange). IsSnapshot r m l (Committed 0 r.reply)) (sym (append-nil asked)) h.whole;
}

-- ---- all calls

-- the keys that the run still needs, of which the first is due
record Remains (snapshot : Bool) (e : eval.Evaluation) (m : Rows) (due : Option Op) : Type 0 where
  left : List RowKey
  keys : eval.keys_of e.given ++ left ≡ (run e.procs e.call m).needs
  is : IsReadAs snapshot due left

remains : (snapshot : Bool) (e : eval.Evaluation) (asked : List Exchange) (c : Course) (due : Option Op) (s : IsReading snapshot e asked c due) → Remains snapshot e s.rows due
remains snapshot e asked c None s = record { left = s.more; keys = sym s.needs; is = tt }
remains snapshot e asked c (Some op) s =
    let next = asked_for e s.waits.0 s.waits.1 s.waits.3 s.rows s.has in
    record { left = s.waits.0 ∷ next.0; keys = sym next.1; is = (s.waits.0, next.0, refl, s.waits.2) }

read_first : (due : Option Op) (left : List RowKey) → IsReadAs false due left → IsRead due left
read_first None left is = tt
read_first (Some op) left is = is

reading_completes : (snapshot : Bool) (e : eval.Evaluation) (by : AttemptId) (asked : List Exchange) (c : Course) (due : Option Op) (s : IsReading snapshot e asked c due) → Completes snapshot (run e.procs e.call s.rows) s.rows by asked due
reading_completes true e by asked c due s =
    let left = remains true e asked c due s in
    snapshot_completes (run e.procs e.call s.rows) s.rows by asked due e.given left.left s.kept left.keys s.has left.is
reading_completes false e by asked c due s =
    let left = remains false e asked c due s in
    let h = s.kept in
    try_completes (run e.procs e.call s.rows) s.rows by asked due
    (reading_goes_on (run e.procs e.call s.rows) s.rows by asked due h.reads left.left h.parts
    (ap (λ l. l ++ left.left) (found_keys h.reads ∙ ap eval.keys_of h.given_is) ∙ left.keys)
    (found_values h.reads s.rows (subst (λ (l : List Given). eval.HasGiven l s.rows) (sym h.given_is) s.has))
    (read_first due left.left left.is))

standing_goes_on : (at : Stage) (r : Run) (m : Rows) (by : AttemptId) (asked : List Exchange) (c : Course) (due : Option Op) → StandsIn at r m asked c due → GoesOn r m by asked due
standing_goes_on stage.Reading r m by asked c due s = absurd s
standing_goes_on stage.Locking r m by asked c due s = locking_goes_on r m by asked due s.reads s.locks s.done s.left s.parts s.has_read.reading s.has_locked.asked s.split s.is_due
standing_goes_on stage.Extending r m by asked c due s = extending_goes_on r m by asked due s.reads s.done s.left s.locks s.extensions s.parts s.has_read.reading s.has_locked.asked s.fits s.split s.extended s.is_due
standing_goes_on stage.Installing r m by asked c due s = ending_goes_on r m by asked (Committed s.time r.reply) _ due s.is_due s.ending
standing_goes_on stage.Releasing r m by asked c due s = ending_goes_on r m by asked (outcome_by c.conflict c.time r.reply) _ due s.is_due s.ending
standing_goes_on stage.Ended r m by asked c due s = subst (λ (o : Option Op). GoesOn r m by asked o) (sym s.nothing) (ending_goes_on r m by asked (outcome_by c.conflict c.time r.reply) [] None tt s.ending)

behind_completes : (snapshot : Bool) (e : eval.Evaluation) (by : AttemptId) (asked : List Exchange) (c : Course) (reply : Reply) (due : Option Op) (s : IsBehind snapshot e asked c reply due) →
    Completes snapshot (run e.procs e.call s.rows) s.rows by asked due
behind_completes true e by asked c reply due s = snapshot_whole (run e.procs e.call s.rows) s.rows by asked c due s.stands
behind_completes false e by asked c reply due s = try_completes (run e.procs e.call s.rows) s.rows by asked due (standing_goes_on c.stage (run e.procs e.call s.rows) s.rows by asked c due s.stands)

-- on some map
record CompletesOn (snapshot : Bool) (e : eval.Evaluation) (by : AttemptId) (asked : List Exchange) (due : Option Op) : Type 0 where
  rows : Rows
  completes : Completes snapshot (run e.procs e.call rows) rows by asked due

goes_completes : (at : Stage) (snapshot : Bool) (e : eval.Evaluation) (by : AttemptId) (asked : List Exchange) (c : Course) (reply : Reply) (due : Option Op) → GoesIn at snapshot e asked c reply due → CompletesOn snapshot e by asked due
goes_completes stage.Reading snapshot e by asked c reply due s = record { rows = s.rows; completes = reading_completes snapshot e by asked c due s }
goes_completes stage.Locking snapshot e by asked c reply due s = record { rows = s.rows; completes = behind_completes snapshot e by asked c reply due s }
goes_completes stage.Extending snapshot e by asked c reply due s = record { rows = s.rows; completes = behind_completes snapshot e by asked c reply due s }
goes_completes stage.Installing snapshot e by asked c reply due s = record { rows = s.rows; completes = behind_completes snapshot e by asked c reply due s }
goes_completes stage.Releasing snapshot e by asked c reply due s = record { rows = s.rows; completes = behind_completes snapshot e by asked c reply due s }
goes_completes stage.Ended snapshot e by asked c reply due s = record { rows = s.rows; completes = behind_completes snapshot e by asked c reply due s }

-- ---- scripts

steps_fit : (by : AttemptId) (partitions : ℕ) (asked : List Exchange) → AllByRecursion (Fits by) asked → AllByRecursion (λ s. MayAnswer s.ask s.answer) (map (step_of by partitions) asked)
steps_fit by partitions [] fit = tt
steps_fit by partitions (e ∷ asked) fit = (fit.0, steps_fit by partitions asked fit.1)

-- the script with what completes it
script_on : (e : eval.Evaluation) (script : List Step) (by : AttemptId) (partitions : ℕ) (asked rest : List Exchange) (m : Rows) (outcome : Outcome) →
    script ≡ map (step_of by partitions) asked → AllByRecursion (λ s. MayAnswer s.ask s.answer) script → AllByRecursion (Fits by) rest → IsAsked e.call.snapshot (run e.procs e.call m) m (asked ++ rest) outcome →
    IsScript e.procs e.call by partitions (script ++ map (step_of by partitions) rest) outcome (run e.procs e.call m).writes
script_on e script by partitions asked rest m outcome steps answered fit whole = record {
  rows = m;
  asked = asked ++ rest;
  steps = ap (λ l. l ++ map (step_of by partitions) rest) steps ∙ sym (map-append (step_of by partitions) asked rest);
  answered = all_append (λ (s : Step). MayAnswer s.ask s.answer) script (map (step_of by partitions) rest) answered (steps_fit by partitions rest fit);
  course = whole;
  writes_are = refl;
}

-- what has been asked begins a script
pub begun : (snapshot : Bool) (e : eval.Evaluation) (script : List Step) (by : AttemptId) (partitions : ℕ) (asked : List Exchange) (c : Course) (reply : Reply) →
    script ≡ map (step_of by partitions) asked → AllByRecursion (λ s. MayAnswer s.ask s.answer) script → snapshot ≡ e.call.snapshot → Goes snapshot e asked c reply None → IsBegun e.procs e.call by partitions script
begun snapshot e script by partitions asked c reply steps answered is goes =
    let g = goes_completes c.stage snapshot e by asked c reply None goes in
    record {
      rest = map (step_of by partitions) g.completes.rest;
      outcome = g.completes.outcome;
      writes = (run e.procs e.call g.rows).writes;
      whole = script_on e script by partitions asked g.completes.rest g.rows g.completes.outcome steps answered g.completes.fit
          (subst (λ b. IsAsked b (run e.procs e.call g.rows) g.rows (asked ++ g.completes.rest) g.completes.outcome) is g.completes.whole);
    }

-- and so it does with the next ask and an answer to it
pub begun_next : (snapshot : Bool) (e : eval.Evaluation) (script : List Step) (by : AttemptId) (partitions : ℕ) (asked : List Exchange) (c : Course) (reply : Reply) (op : Op) →
    script ≡ map (step_of by partitions) asked → AllByRecursion (λ s. MayAnswer s.ask s.answer) script → snapshot ≡ e.call.snapshot → Goes snapshot e asked c reply (Some op) →
    (answer : Answer) × (MayAnswer (record { by = by; op = op }) answer) × IsBegun e.procs e.call by partitions (script ++ step_of by partitions (exchange op answer) ∷ [])
begun_next snapshot e script by partitions asked c reply op steps answered is goes =
    let g = goes_completes c.stage snapshot e by asked c reply (Some op) goes in
    let first = g.completes.starts in
    let x = exchange op first.0 in
    let fit : AllByRecursion (Fits by) (x ∷ first.1) = subst (AllByRecursion (Fits by)) first.2 g.completes.fit in
    let rest = map (step_of by partitions) first.1 in (
      first.0,
      fit.0,
      record {
        rest = rest;
        outcome = g.completes.outcome;
        writes = (run e.procs e.call g.rows).writes;
        whole = subst (λ (l : List Step). IsScript e.procs e.call by partitions l g.completes.outcome (run e.procs e.call g.rows).writes) (sym (append_assoc script (step_of by partitions x ∷ []) rest))
            (script_on e script by partitions asked (x ∷ first.1) g.rows g.completes.outcome steps answered fit
            (subst (λ b. IsAsked b (run e.procs e.call g.rows) g.rows (asked ++ x ∷ first.1) g.completes.outcome) is
            (subst (λ (l : List Exchange). IsAsked snapshot (run e.procs e.call g.rows) g.rows (asked ++ l) g.completes.outcome) first.2 g.completes.whole)));
      },
    )

-- ---- at the end

ending_whole : (r : Run) (m : Rows) (asked : List Exchange) (outcome : Outcome) → IsEnding r m asked outcome [] → IsTry r m asked outcome
ending_whole r m asked outcome s = record {
  reads = s.reads;
  locks = s.locks;
  locking_conflict = s.locking_conflict;
  extensions = s.extensions;
  extending_conflict = s.extending_conflict;
  ends = s.ends;
  parts = s.parts;
  reading = s.reading;
  locking = s.locking;
  extending = s.extending;
  ending = sym (append-nil _) ∙ s.ending;
  outcome_is = s.outcome_is;
}

ended_asked : (snapshot : Bool) (r : Run) (m : Rows) (asked : List Exchange) (c : Course) → StandsBehind snapshot r m asked c None → c.stage ≡ stage.Ended → IsAsked snapshot r m asked (outcome_by c.conflict c.time r.reply)
ended_asked true r m asked c s is =
    subst (λ (o : Outcome). IsSnapshot r m asked o) (sym (ap (λ w. outcome_by w c.time r.reply) s.no_conflict ∙ ap (λ t. outcome_by None t r.reply) s.time)) s.whole
ended_asked false r m asked c s is =
    let h : HasEnded r m asked c None = subst (λ (a : Stage). StandsIn a r m asked c None) is s in
    ending_whole r m asked (outcome_by c.conflict c.time r.reply) h.ending

-- an attempt that has ended has asked a whole script
pub ended_script : (snapshot : Bool) (e : eval.Evaluation) (script : List Step) (by : AttemptId) (partitions : ℕ) (asked : List Exchange) (c : Course) (reply : Reply) →
    script ≡ map (step_of by partitions) asked → AllByRecursion (λ s. MayAnswer s.ask s.answer) script → snapshot ≡ e.call.snapshot → IsBehind snapshot e asked c reply None → c.stage ≡ stage.Ended →
    IsScript e.procs e.call by partitions script (outcome_by c.conflict c.time reply) (writes_in e.standing)
ended_script snapshot e script by partitions asked c reply steps answered is s end =
    record {
      rows = s.rows;
      asked = asked;
      steps = steps;
      answered = answered;
      course = subst (λ b. IsAsked b (run e.procs e.call s.rows) s.rows asked (outcome_by c.conflict c.time reply)) is
          (subst (λ (y : Reply). IsAsked snapshot (run e.procs e.call s.rows) s.rows asked (outcome_by c.conflict c.time y)) s.reply_is (ended_asked snapshot (run e.procs e.call s.rows) s.rows asked c s.stands end));
      writes_are = ap writes_in s.standing;
    }
