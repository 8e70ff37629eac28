-- The bytes of a committed request: its id, its call, its time and its reply.
use Rattle.std.specs.Prelude.{ℕ, zero, suc, ◌<◌, ◌≤◌, ◌^◌, List, [], ◌∷◌, ◌++◌, length, Option, None, Ok, Err, nat_le}
use Rattle.std.specs.List.{flat_map}
use Rattle.coco_types.specs.declared.call.Call.{Call}
use Rattle.coco_types.specs.declared.call.Cause.{Cause}
use Rattle.coco_types.specs.declared.call.Cause.TheVariants.{User, Overflow, ZeroDivide, Kind, BadRow}
use Rattle.coco_types.specs.declared.call.Done.{Done}
use Rattle.coco_types.specs.declared.call.Reply.{Reply}
use Rattle.coco_types.specs.declared.call.Reply.TheVariants as reply
use Rattle.coco_types.specs.declared.value.Value.{Value}
use Rattle.coco_types.specs.Limits.{most_arguments}
use Rattle.coco_bytes.specs.declared.fault.FieldFault.TheVariants.{Bad}
use Rattle.coco_bytes.specs.Fields.{u8_bytes, flag_bytes, u16_bytes, u64_bytes}
use Rattle.coco_bytes.specs.Reads.{◌>>=◌, u8_at, flag_at, u16_at, u64_at}
use Rattle.coco_bytes.specs.Lists.{FitInTurn}
use Rattle.coco_bytes.specs.Values.{value_bytes, IsValue, value_at}
use Rattle.coco_entry.specs.declared.calls.Timed.{Timed}
use Rattle.coco_entry.specs.Grammar.{Reader, ◌▸◌, made, tested, listed}

-- the arguments behind their number
abbrev pub args_bytes : List (Option Value) → List ℕ
args_bytes args = u8_bytes (length args) ++ flat_map value_bytes args

abbrev pub AreArgs : List (Option Value) → Type 0
AreArgs args = (length args ≤ most_arguments) × FitInTurn (λ _. IsValue) None args

unfoldable pub args_count_at : Reader ℕ
args_count_at = tested (λ n. nat_le n most_arguments) u8_at

unfoldable pub args_at : Reader (List (Option Value))
args_at = listed args_count_at (λ _. value_at)

abbrev pub call_bytes : Call → List ℕ
call_bytes call = u16_bytes call.proc_no ++ (flag_bytes call.snapshot ++ args_bytes call.args)

pub record IsCall (call : Call) : Type 0 where
  pub proc_no : call.proc_no < 2 ^ 16
  pub args : AreArgs call.args

unfoldable pub call_at : Reader Call
call_at = made (λ c. record { proc_no = c.0; snapshot = c.1.0; args = c.1.1 }) (u16_at ▸ flag_at ▸ args_at)

abbrev pub cause_bytes : Cause → List ℕ
cause_bytes (User n) = 1 ∷ u16_bytes n
cause_bytes Overflow = 2 ∷ []
cause_bytes ZeroDivide = 3 ∷ []
cause_bytes Kind = 4 ∷ []
cause_bytes BadRow = 5 ∷ []

abbrev pub IsCause : Cause → Type 0
IsCause (User n) = n < 2 ^ 16
IsCause _ = Unit {0}

-- the cause of this kind, whose kind stands at the first place and the rest at the second
unfoldable pub cause_of_kind : ℕ → ℕ → Reader Cause
cause_of_kind (suc zero) at from next = made User u16_at from next
cause_of_kind (suc (suc zero)) at from next = Ok (Overflow, next)
cause_of_kind (suc (suc (suc zero))) at from next = Ok (ZeroDivide, next)
cause_of_kind (suc (suc (suc (suc zero)))) at from next = Ok (Kind, next)
cause_of_kind (suc (suc (suc (suc (suc zero))))) at from next = Ok (BadRow, next)
cause_of_kind zero at from next = Err (Bad at)
cause_of_kind (suc (suc (suc (suc (suc (suc kind)))))) at from next = Err (Bad at)

unfoldable pub cause_at : Reader Cause
cause_at from at = do
  kind ← u8_at from at
  cause_of_kind kind.0 at from kind.1

-- 0 and the value or none, or 1 and the cause
abbrev pub reply_bytes : Reply → List ℕ
reply_bytes (reply.Ok value) = 0 ∷ value_bytes value
reply_bytes (reply.Refused cause) = 1 ∷ cause_bytes cause

abbrev pub IsReply : Reply → Type 0
IsReply (reply.Ok value) = IsValue value
IsReply (reply.Refused cause) = IsCause cause

unfoldable pub reply_of_kind : ℕ → ℕ → Reader Reply
reply_of_kind zero at from next = made reply.Ok value_at from next
reply_of_kind (suc zero) at from next = made reply.Refused cause_at from next
reply_of_kind (suc (suc kind)) at from next = Err (Bad at)

unfoldable pub reply_at : Reader Reply
reply_at from at = do
  kind ← u8_at from at
  reply_of_kind kind.0 at from kind.1

-- what orders a Done: its id, its call and its time
abbrev pub timed_bytes : ℕ → Call → ℕ → List ℕ
timed_bytes id call time = u64_bytes id ++ (call_bytes call ++ u64_bytes time)

unfoldable pub timed_at : Reader Timed
timed_at = made (λ t. record { id = t.0; call = t.1.0; time = t.1.1 }) (u64_at ▸ call_at ▸ u64_at)

-- a Done's epoch stands before it
abbrev pub done_bytes : Done → List ℕ
done_bytes done = timed_bytes done.id done.call done.time ++ reply_bytes done.reply

pub record IsDone (done : Done) : Type 0 where
  pub id : done.id < 2 ^ 64
  pub call : IsCall done.call
  pub time : done.time < 2 ^ 64
  pub reply : IsReply done.reply

abbrev pub done_of : ℕ → Timed → Reply → Done
done_of epoch timed reply = record { id = timed.id; call = timed.call; epoch = epoch; time = timed.time; reply = reply }

unfoldable pub done_at : ℕ → Reader Done
done_at epoch = made (λ d. done_of epoch d.0 d.1) (timed_at ▸ reply_at)
