-- Attempts as data, for the model of one.
use Rattle.std.specs.Prelude.{◌≡◌, ◌⊎◌, ℕ, zero, suc, List, Option, None, Some, refl}
use Rattle.std.proofs.Common.{inl, inr}
use Rattle.std.specs.Coded.{Coded, code_by, coded×, coded⊎, coded_ℕ, coded_list, coded_option}
use Rattle.coco_types.specs.Codes.{key_code, attempt_code}
use Rattle.coco_types.specs.RowKey.{RowKey}
use Rattle.coco_types.specs.declared.call.AttemptId.{AttemptId}
use Rattle.coco_types.specs.declared.call.Call.{Call}
use Rattle.coco_types.specs.declared.call.Reply.{Reply}
use Rattle.coco_types.specs.declared.call.Write.{Write}
use Rattle.coco_ast.specs.Meaning.{Datum}
use Rattle.coco_ast.specs.Tree.{Procedures}
use Rattle.coco_ast.specs.TreeCode.{procedures_code}
use Rattle.coco_eval.specs.EvaluationCode.{datum_code, call_code, reply_code, write_code}
use Rattle.coco_shard.specs.declared.ops.Op.{Op}
use Rattle.coco_shard.specs.declared.ops.Op.TheVariants.{Read, Lock, Extend, Install, Release, Past}
use Rattle.coco_shard.specs.declared.ops.Ask.{Ask}
use Rattle.coco_shard.specs.declared.ops.Answer.{Answer}
use Rattle.coco_shard.specs.declared.ops.Answer.TheVariants.{Got, Locked, Marked, Changed, Extended, Installed, Released, NotMine, Stood}
use Rattle.coco_occ.specs.Trying.{Standing, Ready, Waits, Ended, Trying}
use Rattle.coco_occ.specs.declared.script.Step.{Step}
use Rattle.coco_occ.specs.declared.outcome.Why.{Why}
use Rattle.coco_occ.specs.declared.outcome.Why.TheVariants as why
use Rattle.coco_occ.specs.declared.outcome.Outcome.{Outcome}
use Rattle.coco_occ.specs.declared.outcome.Outcome.TheVariants.{Committed, Conflict, OverTime}

-- ---- operations: those of a key alone by a number, and the two others

abbrev pub OpParts : Type 0
OpParts = (ℕ × RowKey) ⊎ ((RowKey × (ℕ × ℕ)) ⊎ (RowKey × (ℕ × Datum)))

abbrev pub op_parts : Op → OpParts
op_parts (Read k) = inl (0, k)
op_parts (Lock k) = inl (1, k)
op_parts (Release k) = inl (2, k)
op_parts (Past k) = inl (3, k)
op_parts (Extend k wts time) = inr (inl (k, (wts, time)))
op_parts (Install k time value) = inr (inr (k, (time, value)))

abbrev pub numbered_op : ℕ → RowKey → Op
numbered_op zero k = Read k
numbered_op (suc zero) k = Lock k
numbered_op (suc (suc zero)) k = Release k
numbered_op (suc (suc (suc n))) k = Past k

abbrev pub of_op_parts : OpParts → Op
of_op_parts (inl p) = numbered_op p.0 p.1
of_op_parts (inr (inl p)) = Extend p.0 p.1.0 p.1.1
of_op_parts (inr (inr p)) = Install p.0 p.1.0 p.1.1

pub op_back : (op : Op) → of_op_parts (op_parts op) ≡ op
op_back (Read k) = refl
op_back (Lock k) = refl
op_back (Release k) = refl
op_back (Past k) = refl
op_back (Extend k wts time) = refl
op_back (Install k time value) = refl

abbrev pub op_code : Coded Op
op_code = code_by OpParts (coded⊎ (coded× coded_ℕ key_code) (coded⊎ (coded× key_code (coded× coded_ℕ coded_ℕ)) (coded× key_code (coded× coded_ℕ datum_code)))) op_parts of_op_parts op_back

-- ---- answers: those without a field by a number, those with numbers by another, and the others

abbrev pub AnswerParts : Type 0
AnswerParts = (ℕ × (ℕ × (ℕ × Datum))) ⊎ Option AttemptId

abbrev pub answer_parts : Answer → AnswerParts ⊎ AttemptId
answer_parts (Got wts rts value) = inl (inl (0, (wts, (rts, value))))
answer_parts (Locked wts rts) = inl (inl (1, (wts, (rts, None))))
answer_parts (Changed wts) = inl (inl (2, (wts, (0, None))))
answer_parts Extended = inl (inl (3, (0, (0, None))))
answer_parts Installed = inl (inl (4, (0, (0, None))))
answer_parts Released = inl (inl (5, (0, (0, None))))
answer_parts (Stood value) = inl (inl (6, (0, (0, value))))
answer_parts (NotMine mark) = inl (inr mark)
answer_parts (Marked holder) = inr holder

abbrev pub numbered_answer : ℕ → ℕ → ℕ → Datum → Answer
numbered_answer zero wts rts value = Got wts rts value
numbered_answer (suc zero) wts rts value = Locked wts rts
numbered_answer (suc (suc zero)) wts rts value = Changed wts
numbered_answer (suc (suc (suc zero))) wts rts value = Extended
numbered_answer (suc (suc (suc (suc zero)))) wts rts value = Installed
numbered_answer (suc (suc (suc (suc (suc zero))))) wts rts value = Released
numbered_answer (suc (suc (suc (suc (suc (suc n)))))) wts rts value = Stood value

abbrev pub of_answer_parts : AnswerParts ⊎ AttemptId → Answer
of_answer_parts (inl (inl p)) = numbered_answer p.0 p.1.0 p.1.1.0 p.1.1.1
of_answer_parts (inl (inr mark)) = NotMine mark
of_answer_parts (inr holder) = Marked holder

pub answer_back : (a : Answer) → of_answer_parts (answer_parts a) ≡ a
answer_back (Got wts rts value) = refl
answer_back (Locked wts rts) = refl
answer_back (Changed wts) = refl
answer_back Extended = refl
answer_back Installed = refl
answer_back Released = refl
answer_back (Stood value) = refl
answer_back (NotMine mark) = refl
answer_back (Marked holder) = refl

abbrev pub answer_code : Coded Answer
answer_code = code_by (AnswerParts ⊎ AttemptId) (coded⊎ (coded⊎ (coded× coded_ℕ (coded× coded_ℕ (coded× coded_ℕ datum_code))) (coded_option attempt_code)) attempt_code) answer_parts of_answer_parts answer_back

-- ---- steps

abbrev pub ask_code : Coded Ask
ask_code = code_by (AttemptId × Op) (coded× attempt_code op_code) (λ a. (a.by, a.op)) (λ p. record { by = p.0; op = p.1 }) (λ _. refl)

abbrev pub step_code : Coded Step
step_code = code_by (ℕ × (Ask × Answer)) (coded× coded_ℕ (coded× ask_code answer_code)) (λ s. (s.shard, (s.ask, s.answer))) (λ p. record { shard = p.0; ask = p.1.0; answer = p.1.1 }) (λ _. refl)

-- ---- outcomes

abbrev pub why_parts : Why → (RowKey × AttemptId) ⊎ (RowKey × (ℕ × ℕ))
why_parts (why.Marked key holder) = inl (key, holder)
why_parts (why.Changed key read found) = inr (key, (read, found))

abbrev pub of_why_parts : (RowKey × AttemptId) ⊎ (RowKey × (ℕ × ℕ)) → Why
of_why_parts (inl p) = why.Marked p.0 p.1
of_why_parts (inr p) = why.Changed p.0 p.1.0 p.1.1

pub why_back : (w : Why) → of_why_parts (why_parts w) ≡ w
why_back (why.Marked key holder) = refl
why_back (why.Changed key read found) = refl

abbrev pub why_code : Coded Why
why_code = code_by ((RowKey × AttemptId) ⊎ (RowKey × (ℕ × ℕ))) (coded⊎ (coded× key_code attempt_code) (coded× key_code (coded× coded_ℕ coded_ℕ))) why_parts of_why_parts why_back

abbrev pub outcome_parts : Outcome → Option ((ℕ × Reply) ⊎ Why)
outcome_parts (Committed time reply) = Some (inl (time, reply))
outcome_parts (Conflict why) = Some (inr why)
outcome_parts OverTime = None

abbrev pub of_outcome_parts : Option ((ℕ × Reply) ⊎ Why) → Outcome
of_outcome_parts (Some (inl p)) = Committed p.0 p.1
of_outcome_parts (Some (inr why)) = Conflict why
of_outcome_parts None = OverTime

pub outcome_back : (o : Outcome) → of_outcome_parts (outcome_parts o) ≡ o
outcome_back (Committed time reply) = refl
outcome_back (Conflict why) = refl
outcome_back OverTime = refl

abbrev pub outcome_code : Coded Outcome
outcome_code = code_by (Option ((ℕ × Reply) ⊎ Why)) (coded_option (coded⊎ (coded× coded_ℕ reply_code) why_code)) outcome_parts of_outcome_parts outcome_back

-- ---- attempts

abbrev pub standing_parts : Standing → Option ((ℕ × Ask) ⊎ (Outcome × List Write))
standing_parts Ready = None
standing_parts (Waits shard ask) = Some (inl (shard, ask))
standing_parts (Ended outcome writes) = Some (inr (outcome, writes))

abbrev pub of_standing_parts : Option ((ℕ × Ask) ⊎ (Outcome × List Write)) → Standing
of_standing_parts None = Ready
of_standing_parts (Some (inl p)) = Waits p.0 p.1
of_standing_parts (Some (inr p)) = Ended p.0 p.1

pub standing_back : (s : Standing) → of_standing_parts (standing_parts s) ≡ s
standing_back Ready = refl
standing_back (Waits shard ask) = refl
standing_back (Ended outcome writes) = refl

abbrev pub standing_code : Coded Standing
standing_code = code_by (Option ((ℕ × Ask) ⊎ (Outcome × List Write))) (coded_option (coded⊎ (coded× coded_ℕ ask_code) (coded× outcome_code (coded_list write_code)))) standing_parts of_standing_parts standing_back

abbrev pub trying_code : Coded Trying
trying_code =
    code_by (Procedures × (Call × (AttemptId × (ℕ × (List Step × Standing)))))
    (coded× procedures_code (coded× call_code (coded× attempt_code (coded× coded_ℕ (coded× (coded_list step_code) standing_code)))))
    (λ t. (t.procs, (t.call, (t.by, (t.partitions, (t.script, t.standing))))))
    (λ p. record { procs = p.0; call = p.1.0; by = p.1.1.0; partitions = p.1.1.1.0; script = p.1.1.1.1.0; standing = p.1.1.1.1.1 })
    (λ _. refl)
