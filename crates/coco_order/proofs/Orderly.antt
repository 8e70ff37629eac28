-- The journals of an execution are orderly on each key.
use Rattle.std.proofs.Common.{◌≡◌, ◌⊎◌, inl, inr, ℕ, ◌<◌, ◌%◌, Bool, true, false, cond, List, [], ◌∷◌, ◌++◌, map, Option, None, Some, refl, sym, ap, ◌∙◌, subst, arith}
use Rattle.std.specs.List.{filter, AllByRecursion}
use Rattle.coco_types.proofs.Keys.{is_key}
use Rattle.coco_types.specs.RowKey.{RowKey}
use Rattle.coco_types.specs.declared.value.Value.{Value}
use Rattle.coco_types.specs.declared.call.AttemptId.{AttemptId}
use Rattle.coco_types.specs.declared.call.Write.{Write}
use Rattle.coco_ast.specs.Keyed.{Rows, value_at}
use Rattle.coco_ast.specs.Meaning.{Run, run}
use Rattle.coco_eval.specs.declared.machine.Given.{Given}
use Rattle.coco_shard.specs.Table.{key_of}
use Rattle.coco_shard.specs.Law.{Entry}
use Rattle.coco_occ.specs.Exchange.{Exchange, step_of, MayAnswer}
use Rattle.coco_occ.specs.Script.{IsTry, IsSnapshot, IsAsked, IsScript, past}
use Rattle.coco_occ.specs.declared.script.Step.{Step}
use Rattle.coco_occ.specs.declared.outcome.Outcome.{Outcome}
use Rattle.coco_order.specs.OneKey.{Among, own, on, IsTidy, IsOrderly, OnEachKey}
use Rattle.coco_occ.specs.declared.outcome.Tried.{Tried}
use Rattle.coco_occ.specs.Steps.{taken}
use Rattle.coco_order.specs.Execution.{Beginning, Execution, IsTried, IsExecution, journal_on, transcript_of}
use Rattle.coco_order.proofs.Attempts.{by_bool}
use Rattle.coco_order.proofs.Needs.{Apart, needs_apart, writes_apart}
use Rattle.coco_order.proofs.Passes.{IsSent, AreSent, key_steps, script_steps, all_among}
use Rattle.coco_order.proofs.Shapes.{keyed}
use Rattle.coco_order.proofs.Tidying.{entry_by, entries, try_tidy}
use Rattle.std.proofs.lemmas.Nat.{mod_below}

-- ---- scripts

sent_of : (partitions : ℕ) (by : AttemptId) (asked : List Exchange) → AllByRecursion (IsSent partitions by) (map (step_of by partitions) asked)
sent_of partitions by [] = tt
sent_of partitions by (e ∷ asked) = (record { by_attempt = refl; to_shard = refl }, sent_of partitions by asked)

tried_sent : (b : Beginning) (t : Tried) → IsTried b t → AreSent b.partitions t
tried_sent b t tried = subst (AllByRecursion (IsSent b.partitions t.by)) (sym tried.script.steps) (sent_of b.partitions t.by tried.script.asked)

all_sent : (b : Beginning) (ts : List Tried) → AllByRecursion (IsTried b) ts → AllByRecursion (AreSent b.partitions) ts
all_sent b [] all = tt
all_sent b (t ∷ ts) all = (tried_sent b t all.0, all_sent b ts all.1)

pub sent : (b : Beginning) (x : Execution) → IsExecution b x → (worker : ℕ) → worker < b.workers → AllByRecursion (AreSent b.partitions) (transcript_of x worker)
sent b x is worker lt = all_sent b (transcript_of x worker) (is.scripts worker lt)

on_entries : (k : RowKey) (by : AttemptId) (partitions : ℕ) (asked : List Exchange) → on k (map taken (map (step_of by partitions) asked)) ≡ entries by (keyed k asked)
on_entries k by partitions [] = refl
on_entries k by partitions (e ∷ asked) =
    by_bool (λ b. cond b (entry_by by e ∷ on k (map taken (map (step_of by partitions) asked))) (on k (map taken (map (step_of by partitions) asked))) ≡ entries by (cond b (e ∷ keyed k asked) (keyed k asked))) (is_key k (key_of e.op))
    (λ _. ap (λ (es : List Entry). entry_by by e ∷ es) (on_entries k by partitions asked)) (λ _. on_entries k by partitions asked)

pub tried_entries : (b : Beginning) (t : Tried) (tried : IsTried b t) (k : RowKey) → on k (map taken t.script) ≡ entries t.by (keyed k tried.script.asked)
tried_entries b t tried k = ap (λ (s : List Step). on k (map taken s)) tried.script.steps ∙ on_entries k t.by b.partitions tried.script.asked

answered_of : (by : AttemptId) (partitions : ℕ) (asked : List Exchange) → AllByRecursion (λ s. MayAnswer s.ask s.answer) (map (step_of by partitions) asked) → AllByRecursion (λ e. MayAnswer (record { by = by; op = e.op }) e.answer) asked
answered_of by partitions [] all = tt
answered_of by partitions (e ∷ asked) all = (all.0, answered_of by partitions asked all.1)

pub tried_answered : (b : Beginning) (t : Tried) (tried : IsTried b t) → AllByRecursion (λ e. MayAnswer (record { by = t.by; op = e.op }) e.answer) tried.script.asked
tried_answered b t tried = answered_of t.by b.partitions tried.script.asked (subst (AllByRecursion (λ s. MayAnswer s.ask s.answer)) tried.script.steps tried.script.answered)

past_tidy : (k : RowKey) (by : AttemptId) (given : List Given) → IsTidy (entries by (keyed k (map past given)))
past_tidy k by [] = record { steps = tt; ends = refl }
past_tidy k by (g ∷ given) =
    by_bool (λ b. IsTidy (entries by (cond b (past g ∷ keyed k (map past given)) (keyed k (map past given))))) (is_key k g.key)
    (λ _. (let rest : IsTidy (entries by (keyed k (map past given))) = past_tidy k by given in record { steps = (tt, rest.steps); ends = rest.ends })) (λ _. past_tidy k by given)

course_tidy : (snapshot : Bool) (r : Run) (m : Rows) (asked : List Exchange) (outcome : Outcome) → IsAsked snapshot r m asked outcome → Apart r.needs → Apart (map (λ w. w.key) r.writes)
    → (k : RowKey) (by : AttemptId) → AllByRecursion (λ e. MayAnswer (record { by = by; op = e.op }) e.answer) asked → IsTidy (entries by (keyed k asked))
course_tidy true r m asked outcome s needs writes k by answered = subst (λ (xs : List Exchange). IsTidy (entries by (keyed k xs))) (sym s.parts) (past_tidy k by s.given)
course_tidy false r m asked outcome t needs writes k by answered = try_tidy r m asked outcome t needs writes k by answered

pub tried_tidy : (b : Beginning) (t : Tried) → IsTried b t → (k : RowKey) → IsTidy (on k (map taken t.script))
tried_tidy b t tried k =
    subst IsTidy (sym (tried_entries b t tried k))
    (course_tidy tried.request.call.snapshot (run b.procs tried.request.call tried.script.rows) tried.script.rows tried.script.asked t.outcome tried.script.course
    (needs_apart b.procs tried.request.call tried.script.rows) (writes_apart b.procs tried.request.call tried.script.rows) k t.by (tried_answered b t tried))

-- ---- journals

tidy_nothing : IsTidy []
tidy_nothing = record { steps = tt; ends = refl }

pub orderly : (b : Beginning) (x : Execution) → IsExecution b x → (k : RowKey) → IsOrderly (value_at b.opening) k (journal_on b x k)
orderly b x is k = record {
  lawful = is.lawful (k.row % b.partitions) (mod_below k.row b.partitions is.some_partitions);
  tidy = λ a. elim (key_steps b x is (sent b x is) k a) [
    | inl none ↦ subst IsTidy (sym none) tidy_nothing
    | inr some ↦ subst IsTidy (sym some.4) (tried_tidy b some.0 (all_among (IsTried b) (transcript_of x a.worker) some.0 (is.scripts a.worker some.1) some.2) k)
  ];
}

pub in_each : (P : (RowKey → Option Value) → RowKey → List Entry → Type 0) → OnEachKey P → (b : Beginning) (x : Execution) → IsExecution b x → (k : RowKey) → P (value_at b.opening) k (journal_on b x k)
in_each P each b x is k = each (value_at b.opening) k (journal_on b x k) (orderly b x is k)
