-- An attempt that has ended keeps what it says, whatever it forgets of its reads.
use Rattle.std.proofs.Common.{◌≡◌, ℕ, Bool, true, false, List, [], None, refl, sym, ap, ◌∙◌, subst}
use Rattle.coco_types.specs.declared.call.AttemptId.{AttemptId}
use Rattle.coco_types.specs.declared.call.Reply.{Reply}
use Rattle.coco_types.specs.declared.call.Write.{Write}
use Rattle.coco_ast.specs.Keyed.{Rows}
use Rattle.coco_ast.specs.Meaning.{Run, run}
use Rattle.coco_eval.specs.Standing as eval
use Rattle.coco_shard.specs.declared.ops.Op.{Op}
use Rattle.coco_occ.specs.Course.{due_of, outcome_by, is_ended, IsEnding, HasEnded, StandsIn}
use Rattle.coco_occ.specs.Exchange.{Exchange}
use Rattle.coco_occ.specs.Keeping.{IsBehind, StandsBehind, Goes, GoesIn, IsAttempt, rests_in, standing_of, writes_in}
use Rattle.coco_occ.specs.Trying.{has_ended}
use Rattle.coco_occ.specs.declared.course.Course.{Course}
use Rattle.coco_occ.specs.declared.course.Stage.{Stage}
use Rattle.coco_occ.specs.declared.course.Stage.TheVariants as stage
use Rattle.coco_occ.specs.declared.outcome.Outcome.{Outcome}
use Rattle.coco_occ.specs.declared.script.Step.{Step}
use Rattle.coco_occ.proofs.ProgressLemmas.{goes_at}

-- ---- whether it has ended

rests_ended : (at : Stage) (c : Course) (reply : Reply) (ws : List Write) → has_ended (rests_in at c reply ws) ≡ is_ended at
rests_ended stage.Reading c reply ws = refl
rests_ended stage.Locking c reply ws = refl
rests_ended stage.Extending c reply ws = refl
rests_ended stage.Installing c reply ws = refl
rests_ended stage.Releasing c reply ws = refl
rests_ended stage.Ended c reply ws = refl

pub rests_told : (by : AttemptId) (partitions : ℕ) (op : Op) (c : Course) (reply : Reply) (s : eval.Standing) (waits : Bool) → waits ≡ false → has_ended (standing_of waits by partitions op c reply s) ≡ is_ended c.stage
rests_told by partitions op c reply s waits is = ap (λ (b : Bool). has_ended (standing_of b by partitions op c reply s)) is ∙ rests_ended c.stage c reply (writes_in s)

stage_ended : (at : Stage) → is_ended at ≡ true → at ≡ stage.Ended
stage_ended stage.Reading is = absurd (let h : false ≡ true = is in cc)
stage_ended stage.Locking is = absurd (let h : false ≡ true = is in cc)
stage_ended stage.Extending is = absurd (let h : false ≡ true = is in cc)
stage_ended stage.Installing is = absurd (let h : false ≡ true = is in cc)
stage_ended stage.Releasing is = absurd (let h : false ≡ true = is in cc)
stage_ended stage.Ended is = refl

-- an attempt that has ended waits for nothing, and its course has ended
pub ended_at : (by : AttemptId) (partitions : ℕ) (op : Op) (c : Course) (reply : Reply) (s : eval.Standing) (waits : Bool) → has_ended (standing_of waits by partitions op c reply s) ≡ true → (waits ≡ false) × (c.stage ≡ stage.Ended)
ended_at by partitions op c reply s true is = absurd (let h : false ≡ true = is in cc)
ended_at by partitions op c reply s false is = (refl, stage_ended c.stage (sym (rests_ended c.stage c reply (writes_in s)) ∙ is))

-- ---- with another memory of its reads

-- the same but for what was read
abbrev pub Forgets : Course → Course → Type 0
Forgets c d = d ≡ record c { seen = d.seen; expected = d.expected }

same_stage : (c d : Course) → Forgets c d → d.stage ≡ c.stage
same_stage c d f = ap (λ (x : Course). x.stage) f

same_outcome : (c d : Course) (reply : Reply) → Forgets c d → outcome_by c.conflict c.time reply ≡ outcome_by d.conflict d.time reply
same_outcome c d reply f = sym (ap (λ (x : Course). outcome_by x.conflict x.time reply) f)

behind_forgets : (snapshot : Bool) (r : Run) (m : Rows) (asked : List Exchange) (c d : Course) → c.stage ≡ stage.Ended → Forgets c d → StandsBehind snapshot r m asked c None → StandsBehind snapshot r m asked d None
behind_forgets true r m asked c d ended f s = record {
  whole = s.whole;
  ended = same_stage c d f ∙ ended;
  no_conflict = ap (λ (x : Course). x.conflict) f ∙ s.no_conflict;
  time = ap (λ (x : Course). x.time) f ∙ s.time;
  nothing = refl;
}
behind_forgets false r m asked c d ended f s =
    let h : HasEnded r m asked c None = subst (λ (a : Stage). StandsIn a r m asked c None) ended s in
    let g : HasEnded r m asked d None = record { nothing = refl; ending = subst (λ (o : Outcome). IsEnding r m asked o []) (same_outcome c d r.reply f) h.ending } in
    subst (λ (a : Stage). StandsIn a r m asked d None) (sym (same_stage c d f ∙ ended)) g

pub forgets : (e : eval.Evaluation) (script : List Step) (by : AttemptId) (partitions : ℕ) (snapshot : Bool) (c d : Course) (reply : Reply) (op : Op) (waits : Bool) → IsAttempt e script by partitions snapshot c reply op waits →
    waits ≡ false → c.stage ≡ stage.Ended → Forgets c d → IsAttempt e script by partitions snapshot d reply op waits
forgets e script by partitions snapshot c d reply op waits a free ended f =
    let before : Goes snapshot e a.asked c reply None = subst (λ (b : Bool). Goes snapshot e a.asked c reply (due_of b op)) free a.goes in
    let s : IsBehind snapshot e a.asked c reply None = subst (λ (x : Stage). GoesIn x snapshot e a.asked c reply None) ended before in
    let behind : IsBehind snapshot e a.asked d reply None = record {
      rows = s.rows;
      standing = s.standing;
      reply_is = s.reply_is;
      stands = behind_forgets snapshot (run e.procs e.call s.rows) s.rows a.asked c d ended f s.stands;
    } in
    record {
      asked = a.asked;
      steps = a.steps;
      answered = a.answered;
      parted = a.parted;
      snapshot_is = a.snapshot_is;
      goes = subst (λ (b : Bool). Goes snapshot e a.asked d reply (due_of b op)) (sym free) (goes_at snapshot e a.asked d reply None stage.Ended (same_stage c d f ∙ ended) behind);
    }

-- its run has ended too
pub run_ended : (e : eval.Evaluation) (script : List Step) (by : AttemptId) (partitions : ℕ) (snapshot : Bool) (c : Course) (reply : Reply) (op : Op) (waits : Bool) → IsAttempt e script by partitions snapshot c reply op waits → waits ≡ false → c.stage ≡ stage.Ended →
    (told : Reply) × (writes : List Write) × (e.standing ≡ eval.Ended told writes)
run_ended e script by partitions snapshot c reply op waits a free ended =
    let before : Goes snapshot e a.asked c reply None = subst (λ (b : Bool). Goes snapshot e a.asked c reply (due_of b op)) free a.goes in
    let s : IsBehind snapshot e a.asked c reply None = subst (λ (x : Stage). GoesIn x snapshot e a.asked c reply None) ended before in
    (reply, (run e.procs e.call s.rows).writes, s.standing)
