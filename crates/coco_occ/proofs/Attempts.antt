-- What an attempt's fields say of it, and what its calls leave.
use Rattle.std.proofs.Common.{◌≡◌, ◌⊎◌, inl, inr, ℕ, ◌≤◌, Bool, true, false, List, [], ◌∷◌, ◌++◌, map, None, Some, refl, sym, ap, ◌∙◌, subst}
use Rattle.std.specs.List.{AllByRecursion}
use Rattle.std.proofs.lemmas.List.{map-append}
use Rattle.coco_types.specs.RowKey.{partition_of}
use Rattle.coco_types.specs.declared.call.AttemptId.{AttemptId}
use Rattle.coco_types.specs.declared.call.Call.{Call}
use Rattle.coco_types.specs.declared.call.Reply.{Reply}
use Rattle.coco_types.specs.declared.call.Write.{Write}
use Rattle.coco_ast.specs.Meaning.{run}
use Rattle.coco_ast.specs.Tree.{Procedures}
use Rattle.coco_ast.proofs.Lists.{all_append}
use Rattle.coco_eval.specs.Standing as eval
use Rattle.coco_shard.specs.Table.{key_of}
use Rattle.coco_shard.specs.declared.ops.Ask.{Ask}
use Rattle.coco_shard.specs.declared.ops.Op.{Op}
use Rattle.coco_shard.specs.declared.ops.Answer.{Answer}
use Rattle.coco_occ.specs.Course.{IsFresh, HasEnded, StandsIn, due_of, exchange, outcome_by}
use Rattle.coco_occ.specs.Exchange.{Exchange, step_of, MayAnswer}
use Rattle.coco_occ.specs.Keeping.{IsBehind, GoesIn, Goes, writes_in, rests_in, standing_of, IsAttempt}
use Rattle.coco_occ.specs.Script.{IsBegun}
use Rattle.coco_occ.specs.Steps.{AreBy}
use Rattle.coco_occ.specs.Trying.{Standing, Ready, Waits, Ended, Trying, IsSound, IsSoundAt, answered}
use Rattle.coco_occ.specs.declared.course.Course.{Course}
use Rattle.coco_occ.specs.declared.course.Stage.{Stage}
use Rattle.coco_occ.specs.declared.course.Stage.TheVariants as stage
use Rattle.coco_occ.specs.declared.script.Step.{Step}
use Rattle.coco_occ.proofs.AttemptLemmas.{starts_reading}
use Rattle.coco_occ.proofs.ProgressLemmas.{goes_at}
use Rattle.coco_occ.proofs.Soundness.{begun, begun_next, ended_script}

-- an attempt as contracts see it
abbrev pub seen_as : eval.Evaluation → List Step → AttemptId → ℕ → Standing → Trying
seen_as e script by partitions s = record { procs = e.procs; call = e.call; by = by; partitions = partitions; script = script; standing = s }

-- ---- what it has asked is sound

rests_sound : (at : Stage) (e : eval.Evaluation) (script : List Step) (by : AttemptId) (partitions : ℕ) (snapshot : Bool) (c : Course) (reply : Reply) (asked : List Exchange) →
    c.stage ≡ at → script ≡ map (step_of by partitions) asked → AllByRecursion (λ s. MayAnswer s.ask s.answer) script → snapshot ≡ e.call.snapshot → GoesIn at snapshot e asked c reply None →
    IsBegun e.procs e.call by partitions script → IsSoundAt (seen_as e script by partitions (rests_in at c reply (writes_in e.standing))) (rests_in at c reply (writes_in e.standing))
rests_sound stage.Reading e script by partitions snapshot c reply asked at steps answers is goes begins = begins
rests_sound stage.Locking e script by partitions snapshot c reply asked at steps answers is goes begins = begins
rests_sound stage.Extending e script by partitions snapshot c reply asked at steps answers is goes begins = begins
rests_sound stage.Installing e script by partitions snapshot c reply asked at steps answers is goes begins = begins
rests_sound stage.Releasing e script by partitions snapshot c reply asked at steps answers is goes begins = begins
rests_sound stage.Ended e script by partitions snapshot c reply asked at steps answers is goes begins = ended_script snapshot e script by partitions asked c reply steps answers is goes at

pub attempt_sound : (e : eval.Evaluation) (script : List Step) (by : AttemptId) (partitions : ℕ) (snapshot : Bool) (c : Course) (reply : Reply) (op : Op) (waits : Bool) → IsAttempt e script by partitions snapshot c reply op waits →
    IsSound (seen_as e script by partitions (standing_of waits by partitions op c reply e.standing))
attempt_sound e script by partitions snapshot c reply op true a = begun_next snapshot e script by partitions a.asked c reply op a.steps a.answered a.snapshot_is a.goes
attempt_sound e script by partitions snapshot c reply op false a =
    rests_sound c.stage e script by partitions snapshot c reply a.asked refl a.steps a.answered a.snapshot_is a.goes (begun snapshot e script by partitions a.asked c reply a.steps a.answered a.snapshot_is a.goes)

-- ---- what its standing says

pub ready_free : (waits : Bool) (by : AttemptId) (partitions : ℕ) (op : Op) (c : Course) (reply : Reply) (s : eval.Standing) → standing_of waits by partitions op c reply s ≡ Ready → waits ≡ false
ready_free true by partitions op c reply s is = absurd (let e : Waits (partition_of partitions (key_of op)) (record { by = by; op = op }) ≡ Ready = is in cc)
ready_free false by partitions op c reply s is = refl

rests_any : (at : Stage) (c : Course) (reply : Reply) (ws vs : List Write) → rests_in at c reply ws ≡ Ready → rests_in at c reply vs ≡ Ready
rests_any stage.Reading c reply ws vs is = refl
rests_any stage.Locking c reply ws vs is = refl
rests_any stage.Extending c reply ws vs is = refl
rests_any stage.Installing c reply ws vs is = refl
rests_any stage.Releasing c reply ws vs is = refl
rests_any stage.Ended c reply ws vs is = absurd (let e : Ended (outcome_by c.conflict c.time reply) ws ≡ Ready = is in cc)

pub ready_rests : (waits : Bool) (by : AttemptId) (partitions : ℕ) (op : Op) (c : Course) (reply : Reply) (s : eval.Standing) (ws : List Write) → standing_of waits by partitions op c reply s ≡ Ready → rests_in c.stage c reply ws ≡ Ready
ready_rests true by partitions op c reply s ws is = absurd (let e : Waits (partition_of partitions (key_of op)) (record { by = by; op = op }) ≡ Ready = is in cc)
ready_rests false by partitions op c reply s ws is = rests_any c.stage c reply (writes_in s) ws is

rests_waiting : (at : Stage) (c : Course) (reply : Reply) (ws : List Write) (shard : ℕ) (ask : Ask) → rests_in at c reply ws ≡ Waits shard ask → ⊥
rests_waiting stage.Reading c reply ws shard ask is = let e : Ready ≡ Waits shard ask = is in cc
rests_waiting stage.Locking c reply ws shard ask is = let e : Ready ≡ Waits shard ask = is in cc
rests_waiting stage.Extending c reply ws shard ask is = let e : Ready ≡ Waits shard ask = is in cc
rests_waiting stage.Installing c reply ws shard ask is = let e : Ready ≡ Waits shard ask = is in cc
rests_waiting stage.Releasing c reply ws shard ask is = let e : Ready ≡ Waits shard ask = is in cc
rests_waiting stage.Ended c reply ws shard ask is = let e : Ended (outcome_by c.conflict c.time reply) ws ≡ Waits shard ask = is in cc

-- an attempt that waits has asked what its fields say
pub waits_for : (waits : Bool) (by : AttemptId) (partitions : ℕ) (op : Op) (c : Course) (reply : Reply) (s : eval.Standing) (shard : ℕ) (ask : Ask) → standing_of waits by partitions op c reply s ≡ Waits shard ask →
    (waits ≡ true) × (partition_of partitions (key_of op) ≡ shard) × (record { by = by; op = op } ≡ ask)
waits_for true by partitions op c reply s shard ask is =
    let e : Waits (partition_of partitions (key_of op)) (record { by = by; op = op }) ≡ Waits shard ask = is in (refl, (cc), (cc))
waits_for false by partitions op c reply s shard ask is = absurd (rests_waiting c.stage c reply (writes_in s) shard ask is)

-- ---- its calls

pub steps_by : (by : AttemptId) (partitions : ℕ) (asked : List Exchange) → AreBy by (map (step_of by partitions) asked)
steps_by by partitions [] = tt
steps_by by partitions (e ∷ asked) = (refl, steps_by by partitions asked)

abbrev started : Procedures → Call → eval.Evaluation
started ps call = record { procs = ps; call = call; given = []; standing = eval.Ready }

pub starts : (ps : Procedures) (call : Call) (e : eval.Evaluation) (script : List Step) (by : AttemptId) (partitions : ℕ) (c : Course) (reply : Reply) (op : Op) → e ≡ record { procs = ps; call = call; given = []; standing = eval.Ready } → script ≡ [] → 1 ≤ partitions → IsFresh c →
    IsAttempt e script by partitions call.snapshot c reply op false
starts ps call e script by partitions c reply op is empty parted fresh =
    subst (λ (x : eval.Evaluation). IsAttempt x script by partitions call.snapshot c reply op false) (sym is)
    (subst (λ (l : List Step). IsAttempt (started ps call) l by partitions call.snapshot c reply op false) (sym empty) (record {
      asked = [];
      steps = refl;
      answered = tt;
      parted = parted;
      snapshot_is = refl;
      goes = goes_at call.snapshot (started ps call) [] c reply None stage.Reading fresh.stage_is (starts_reading call.snapshot ps call c fresh);
    }))

-- an answer is one more step
pub took : (e d : eval.Evaluation) (old new : List Step) (by : AttemptId) (partitions : ℕ) (snapshot : Bool) (b c : Course) (reply told : Reply) (op : Op) (answer : Answer) (waits : Bool) (a : IsAttempt e old by partitions snapshot b reply op waits) →
    new ≡ old ++ step_of by partitions (exchange op answer) ∷ [] → MayAnswer (record { by = by; op = op }) answer → d.call ≡ e.call → Goes snapshot d (a.asked ++ exchange op answer ∷ []) c told None →
    IsAttempt d new by partitions snapshot c told op false
took e d old new by partitions snapshot b c reply told op answer waits a is may call goes = record {
  asked = a.asked ++ exchange op answer ∷ [];
  steps = is ∙ ap (λ l. l ++ step_of by partitions (exchange op answer) ∷ []) a.steps ∙ sym (map-append (step_of by partitions) a.asked (exchange op answer ∷ []));
  answered = subst (AllByRecursion (λ (s : Step). MayAnswer s.ask s.answer)) (sym is) (all_append (λ (s : Step). MayAnswer s.ask s.answer) old (step_of by partitions (exchange op answer) ∷ []) a.answered (may, tt));
  parted = a.parted;
  snapshot_is = a.snapshot_is ∙ ap (λ (x : Call). x.snapshot) (sym call);
  goes = goes;
}

-- what was asked is awaited, or the attempt has ended
pub moves : (e d : eval.Evaluation) (script : List Step) (by : AttemptId) (partitions : ℕ) (snapshot : Bool) (b c : Course) (reply reply' : Reply) (op : Op) (waits : Bool) (next : Op) (awaits : Bool) →
    (a : IsAttempt e script by partitions snapshot b reply op waits) → d.call ≡ e.call → Goes snapshot d a.asked c reply' (due_of awaits next) → IsAttempt d script by partitions snapshot c reply' next awaits
moves e d script by partitions snapshot b c reply reply' op waits next awaits a call goes = record {
  asked = a.asked;
  steps = a.steps;
  answered = a.answered;
  parted = a.parted;
  snapshot_is = a.snapshot_is ∙ ap (λ (x : Call). x.snapshot) (sym call);
  goes = goes;
}

-- one that waits for nothing goes on
pub ready_goes : (e : eval.Evaluation) (script : List Step) (by : AttemptId) (partitions : ℕ) (snapshot : Bool) (c : Course) (reply : Reply) (op : Op) (waits : Bool) → (a : IsAttempt e script by partitions snapshot c reply op waits) → waits ≡ false →
    Goes snapshot e a.asked c reply None
ready_goes e script by partitions snapshot c reply op waits a free = subst (λ (b : Bool). Goes snapshot e a.asked c reply (due_of b op)) free a.goes

-- one that waits goes on with what it asked
pub waiting_goes : (e : eval.Evaluation) (script : List Step) (by : AttemptId) (partitions : ℕ) (snapshot : Bool) (c : Course) (reply : Reply) (op : Op) (waits : Bool) → (a : IsAttempt e script by partitions snapshot c reply op waits) → waits ≡ true →
    Goes snapshot e a.asked c reply (Some op)
waiting_goes e script by partitions snapshot c reply op waits a awaits = subst (λ (b : Bool). Goes snapshot e a.asked c reply (due_of b op)) awaits a.goes

never_ended : (snapshot : Bool) (e : eval.Evaluation) (asked : List Exchange) (b : Course) (reply : Reply) (op : Op) → IsBehind snapshot e asked b reply (Some op) → b.stage ≡ stage.Ended → ⊥
never_ended true e asked b reply op s is = let g : Some op ≡ None = s.stands.nothing in cc
never_ended false e asked b reply op s is =
    let h : HasEnded (run e.procs e.call s.rows) s.rows asked b (Some op) = subst (λ (a : Stage). StandsIn a (run e.procs e.call s.rows) s.rows asked b (Some op)) is s.stands in
    let g : Some op ≡ None = h.nothing in cc

-- behind an answer it hasn't ended
rests_at : (at : Stage) (snapshot : Bool) (e : eval.Evaluation) (asked : List Exchange) (b c : Course) (reply told : Reply) (op : Op) (ws : List Write) → GoesIn at snapshot e asked b reply (Some op) → b.stage ≡ at → rests_in at c told ws ≡ Ready
rests_at stage.Reading snapshot e asked b c reply told op ws goes is = refl
rests_at stage.Locking snapshot e asked b c reply told op ws goes is = refl
rests_at stage.Extending snapshot e asked b c reply told op ws goes is = refl
rests_at stage.Installing snapshot e asked b c reply told op ws goes is = refl
rests_at stage.Releasing snapshot e asked b c reply told op ws goes is = refl
rests_at stage.Ended snapshot e asked b c reply told op ws goes is = absurd (never_ended snapshot e asked b reply op goes is)

pub rests_behind : (snapshot : Bool) (e : eval.Evaluation) (asked : List Exchange) (b c : Course) (reply told : Reply) (op : Op) (ws : List Write) → Goes snapshot e asked b reply (Some op) → (c.stage ≡ b.stage) ⊎ (c.stage ≡ stage.Releasing) → rests_in c.stage c told ws ≡ Ready
rests_behind snapshot e asked b c reply told op ws goes how =
    elim how [
      | inl same ↦ subst (λ (a : Stage). rests_in a c told ws ≡ Ready) (sym same) (rests_at b.stage snapshot e asked b c reply told op ws goes refl)
      | inr releasing ↦ subst (λ (a : Stage). rests_in a c told ws ≡ Ready) (sym releasing) refl
    ]

-- behind an answer it is the attempt with one more step, and ready
pub took_one : (e d : eval.Evaluation) (old new : List Step) (by : AttemptId) (partitions : ℕ) (snapshot : Bool) (b c : Course) (reply told : Reply) (op : Op) (answer : Answer) (waits : Bool) (t : Trying) → IsAttempt e old by partitions snapshot b reply op waits →
    seen_as e old by partitions (standing_of waits by partitions op b reply e.standing) ≡ t → new ≡ old ++ step_of by partitions (exchange op answer) ∷ [] → d.procs ≡ e.procs → d.call ≡ e.call → (c.stage ≡ b.stage) ⊎ (c.stage ≡ stage.Releasing) →
    (shard : ℕ) (ask : Ask) → t.standing ≡ Waits shard ask → seen_as d new by partitions (standing_of false by partitions op c told d.standing) ≡ record t { script = answered t shard ask answer; standing = Ready }
took_one e d old new by partitions snapshot b c reply told op answer waits t a view is procs call how shard ask standing =
    let w = waits_for waits by partitions op b reply e.standing shard ask (ap (λ (u : Trying). u.standing) view ∙ standing) in
    let ready : rests_in c.stage c told (writes_in d.standing) ≡ Ready = rests_behind snapshot e a.asked b c reply told op (writes_in d.standing) (waiting_goes e old by partitions snapshot b reply op waits a w.0) how in
    ap (λ (s : Standing). seen_as d new by partitions s) ready
    ∙ ap (λ (l : List Step). seen_as d l by partitions Ready) is
    ∙ ap (λ (n : ℕ). seen_as d (old ++ record { shard = n; ask = record { by = by; op = op }; answer = answer } ∷ []) by partitions Ready) w.1
    ∙ ap (λ (k : Ask). seen_as d (old ++ record { shard = shard; ask = k; answer = answer } ∷ []) by partitions Ready) w.2
    ∙ ap (λ (p : Procedures). record { procs = p; call = d.call; by = by; partitions = partitions; script = old ++ record { shard = shard; ask = ask; answer = answer } ∷ []; standing = Ready }) procs
    ∙ ap (λ (k : Call). record { procs = e.procs; call = k; by = by; partitions = partitions; script = old ++ record { shard = shard; ask = ask; answer = answer } ∷ []; standing = Ready }) call
    ∙ ap (λ (u : Trying). record u { script = answered u shard ask answer; standing = Ready }) view
