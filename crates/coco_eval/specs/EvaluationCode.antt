-- Evaluations as data, for the model of a run.
use Rattle.std.specs.Prelude.{◌≡◌, ◌⊎◌, ℕ, zero, suc, Bool, List, Option, Some, None, refl}
use Rattle.std.proofs.Common.{inl, inr}
use Rattle.std.specs.Coded.{Coded, code_by, coded×, coded⊎, coded_ℕ, coded_bool, coded_list, coded_option}
use Rattle.coco_types.specs.Codes.{key_code, value_code}
use Rattle.coco_types.specs.RowKey.{RowKey}
use Rattle.coco_types.specs.declared.call.Call.{Call}
use Rattle.coco_types.specs.declared.call.Cause.{Cause}
use Rattle.coco_types.specs.declared.call.Cause.TheVariants.{User, Overflow, ZeroDivide, Kind, BadRow}
use Rattle.coco_types.specs.declared.call.Reply.{Reply}
use Rattle.coco_types.specs.declared.call.Reply.TheVariants.{Ok as Answers, Refused}
use Rattle.coco_types.specs.declared.call.Write.{Write}
use Rattle.coco_ast.specs.Meaning.{Datum}
use Rattle.coco_ast.specs.Tree.{Procedures}
use Rattle.coco_ast.specs.TreeCode.{procedures_code}
use Rattle.coco_eval.specs.Standing.{Standing, Ready, Asks, Ended, Evaluation}
use Rattle.coco_eval.specs.declared.machine.Given.{Given}

abbrev pub datum_code : Coded Datum
datum_code = coded_option value_code

abbrev pub call_code : Coded Call
call_code = code_by (ℕ × (List Datum × Bool)) (coded× coded_ℕ (coded× (coded_list datum_code) coded_bool)) (λ c. (c.proc_no, (c.args, c.snapshot))) (λ p. record { proc_no = p.0; args = p.1.0; snapshot = p.1.1 }) (λ _. refl)

abbrev pub write_code : Coded Write
write_code = code_by (RowKey × Datum) (coded× key_code datum_code) (λ w. (w.key, w.value)) (λ p. record { key = p.0; value = p.1 }) (λ _. refl)

abbrev pub given_code : Coded Given
given_code = code_by (RowKey × Datum) (coded× key_code datum_code) (λ g. (g.key, g.value)) (λ p. record { key = p.0; value = p.1 }) (λ _. refl)

abbrev pub cause_parts : Cause → ℕ ⊎ ℕ
cause_parts (User n) = inl n
cause_parts Overflow = inr 0
cause_parts ZeroDivide = inr 1
cause_parts Kind = inr 2
cause_parts BadRow = inr 3

abbrev pub numbered : ℕ → Cause
numbered zero = Overflow
numbered (suc zero) = ZeroDivide
numbered (suc (suc zero)) = Kind
numbered (suc (suc (suc n))) = BadRow

abbrev pub of_cause_parts : ℕ ⊎ ℕ → Cause
of_cause_parts (inl n) = User n
of_cause_parts (inr n) = numbered n

pub cause_back : (c : Cause) → of_cause_parts (cause_parts c) ≡ c
cause_back (User n) = refl
cause_back Overflow = refl
cause_back ZeroDivide = refl
cause_back Kind = refl
cause_back BadRow = refl

abbrev pub cause_code : Coded Cause
cause_code = code_by (ℕ ⊎ ℕ) (coded⊎ coded_ℕ coded_ℕ) cause_parts of_cause_parts cause_back

abbrev pub reply_parts : Reply → Datum ⊎ Cause
reply_parts (Answers v) = inl v
reply_parts (Refused c) = inr c

abbrev pub of_reply_parts : Datum ⊎ Cause → Reply
of_reply_parts (inl v) = Answers v
of_reply_parts (inr c) = Refused c

pub reply_back : (r : Reply) → of_reply_parts (reply_parts r) ≡ r
reply_back (Answers v) = refl
reply_back (Refused c) = refl

abbrev pub reply_code : Coded Reply
reply_code = code_by (Datum ⊎ Cause) (coded⊎ datum_code cause_code) reply_parts of_reply_parts reply_back

abbrev pub standing_parts : Standing → Option (RowKey ⊎ (Reply × List Write))
standing_parts Ready = None
standing_parts (Asks k) = Some (inl k)
standing_parts (Ended r ws) = Some (inr (r, ws))

abbrev pub of_standing_parts : Option (RowKey ⊎ (Reply × List Write)) → Standing
of_standing_parts None = Ready
of_standing_parts (Some (inl k)) = Asks k
of_standing_parts (Some (inr p)) = Ended p.0 p.1

pub standing_back : (s : Standing) → of_standing_parts (standing_parts s) ≡ s
standing_back Ready = refl
standing_back (Asks k) = refl
standing_back (Ended r ws) = refl

abbrev pub standing_code : Coded Standing
standing_code = code_by (Option (RowKey ⊎ (Reply × List Write))) (coded_option (coded⊎ key_code (coded× reply_code (coded_list write_code)))) standing_parts of_standing_parts standing_back

abbrev pub evaluation_code : Coded Evaluation
evaluation_code = code_by (Procedures × (Call × (List Given × Standing))) (coded× procedures_code (coded× call_code (coded× (coded_list given_code) standing_code)))
    (λ e. (e.procs, (e.call, (e.given, e.standing)))) (λ p. record { procs = p.0; call = p.1.0; given = p.1.1.0; standing = p.1.1.1 }) (λ _. refl)
