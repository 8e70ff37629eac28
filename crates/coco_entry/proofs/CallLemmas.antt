-- Committed requests read back.
use Rattle.std.proofs.Common.{◌≡◌, ◌≢◌, ℕ, zero, suc, ◌+◌, ◌^◌, ◌<◌, ◌≤◌, Bool, leb, List, ◌++◌, Option, Ok, Err, refl, sym, arith}
use Rattle.std.proofs.lemmas.Bool.{leb-true, le-leb}
use Rattle.coco_types.specs.declared.call.Call.{Call}
use Rattle.coco_types.specs.declared.call.Cause.{Cause}
use Rattle.coco_types.specs.declared.call.Cause.TheVariants.{User, Overflow, ZeroDivide, Kind, BadRow}
use Rattle.coco_types.specs.declared.call.Done.{Done}
use Rattle.coco_types.specs.declared.call.Reply.{Reply}
use Rattle.coco_types.specs.declared.call.Reply.TheVariants as reply
use Rattle.coco_types.specs.declared.value.Value.{Value}
use Rattle.coco_types.specs.Limits.{most_arguments}
use Rattle.coco_bytes.specs.declared.fault.FieldFault.{FieldFault}
use Rattle.coco_bytes.specs.declared.fault.FieldFault.TheVariants.{Bad}
use Rattle.coco_bytes.specs.Fields.{Stands, AreBytes, u8_bytes, flag_bytes, u16_bytes, u64_bytes}
use Rattle.coco_bytes.specs.Reads.{Agree, u8_at, flag_at, u16_at, u64_at}
use Rattle.coco_bytes.specs.Values.{value_bytes, IsValue, value_at}
use Rattle.coco_bytes.proofs.FieldLemmas.{bind_then, ok_then, Stands-then, Stands-first, Stands-second}
use Rattle.coco_bytes.proofs.NumberLemmas.{u8_agrees, flag_agrees, u16_agrees, u64_agrees}
use Rattle.coco_bytes.proofs.ValueLemmas.{value_agrees}
use Rattle.coco_entry.specs.declared.calls.Timed.{Timed}
use Rattle.coco_entry.specs.Grammar.{◌▸◌, tested}
use Rattle.coco_entry.specs.Calls.{args_bytes, AreArgs, args_count_at, args_at, call_bytes, IsCall, call_at, cause_bytes, IsCause, cause_of_kind, cause_at, reply_bytes, IsReply, reply_of_kind, reply_at, timed_bytes, timed_at, done_bytes, IsDone, done_of, done_at}
use Rattle.coco_entry.proofs.GrammarLemmas.{agree_so, pair_agrees, made_agrees, tested_agrees, listed_agrees}

args_agree : Agree args_at args_bytes AreArgs
unfolding args_at args_count_at
args_agree =
    agree_so (listed_agrees (tested (λ n. leb n most_arguments) u8_at) u8_bytes (λ n. (n < 2 ^ 8) × (n ≤ most_arguments)) (λ _. value_at) value_bytes (λ _. IsValue)
    (tested_agrees (λ n. leb n most_arguments) (λ n. n ≤ most_arguments) u8_at u8_bytes (λ n. n < 2 ^ 8) u8_agrees (λ n e. leb-true n most_arguments e) (λ n h. le-leb n most_arguments h))
    (λ _. value_agrees))
    (λ _. refl) (λ args f. (f.0.1, f.1)) (λ args f. ((omega (arith, f.0), f.0), f.1))

call_agrees : Agree call_at call_bytes IsCall
unfolding call_at
call_agrees =
    let parts : Call → ℕ × (Bool × List (Option Value)) = λ c. (c.proc_no, (c.snapshot, c.args)) in
    let make : ℕ × (Bool × List (Option Value)) → Call = λ c. record { proc_no = c.0; snapshot = c.1.0; args = c.1.1 } in
    agree_so (made_agrees make parts (u16_at ▸ flag_at ▸ args_at) (λ c. u16_bytes c.0 ++ (flag_bytes c.1.0 ++ args_bytes c.1.1)) (λ c. (c.0 < 2 ^ 16) × (Unit {0} × AreArgs c.1.1))
    (pair_agrees u16_agrees (pair_agrees flag_agrees args_agree))
    (λ c _. refl) (λ c _. refl))
    (λ _. refl) (λ c f. record { proc_no = f.0; args = f.1.1 }) (λ c f. (f.proc_no, (tt, f.args)))

-- a cause whose kind stands before it
cause_found_of : (kind : ℕ) (from : List ℕ) (at next : ℕ) (p : Cause × ℕ) → AreBytes from → Stands from at (u8_bytes kind) next → cause_of_kind kind at from next ≡ Ok p → IsCause p.0 × Stands from at (cause_bytes p.0) p.1
unfolding cause_of_kind
cause_found_of zero from at next p fits first e = absurd cc
cause_found_of (suc zero) from at next p fits first e =
    bind_then (u16_at from next) (λ (n : ℕ × ℕ). Ok (User n.0, n.1)) p e (λ n read ok.
    let a = u16_agrees.found from next n.0 n.1 fits read in
    ok_then FieldFault (λ (q : Cause × ℕ). IsCause q.0 × Stands from at (cause_bytes q.0) q.1) (User n.0, n.1) p ok
    (a.0, Stands-then from at (u8_bytes 1) next (u16_bytes n.0) n.1 first a.1))
cause_found_of (suc (suc zero)) from at next p fits first e = ok_then FieldFault (λ (q : Cause × ℕ). IsCause q.0 × Stands from at (cause_bytes q.0) q.1) (Overflow, next) p e (tt, first)
cause_found_of (suc (suc (suc zero))) from at next p fits first e = ok_then FieldFault (λ (q : Cause × ℕ). IsCause q.0 × Stands from at (cause_bytes q.0) q.1) (ZeroDivide, next) p e (tt, first)
cause_found_of (suc (suc (suc (suc zero)))) from at next p fits first e = ok_then FieldFault (λ (q : Cause × ℕ). IsCause q.0 × Stands from at (cause_bytes q.0) q.1) (Kind, next) p e (tt, first)
cause_found_of (suc (suc (suc (suc (suc zero))))) from at next p fits first e = ok_then FieldFault (λ (q : Cause × ℕ). IsCause q.0 × Stands from at (cause_bytes q.0) q.1) (BadRow, next) p e (tt, first)
cause_found_of (suc (suc (suc (suc (suc (suc kind)))))) from at next p fits first e = absurd cc

cause_found : (from : List ℕ) (at : ℕ) (cause : Cause) (end : ℕ) → AreBytes from → cause_at from at ≡ Ok (cause, end) → IsCause cause × Stands from at (cause_bytes cause) end
unfolding cause_at
cause_found from at cause end fits e =
    bind_then (u8_at from at) (λ (kind : ℕ × ℕ). cause_of_kind kind.0 at from kind.1) (cause, end) e (λ kind read next.
    cause_found_of kind.0 from at kind.1 (cause, end) fits (u8_agrees.found from at kind.0 kind.1 fits read).1 next)

cause_again : (from : List ℕ) (at : ℕ) (cause : Cause) (end : ℕ) → IsCause cause → Stands from at (cause_bytes cause) end → cause_at from at ≡ Ok (cause, end)
unfolding cause_at cause_of_kind
cause_again from at (User n) end fits p =
    let one = u8_agrees.again from at 1 (at + 1) (omega arith) (Stands-first from at (u8_bytes 1) (u16_bytes n) end p) in
    let two = u16_agrees.again from (at + 1) n end fits (Stands-second from at (u8_bytes 1) (u16_bytes n) end p) in
    rw (one, two) refl
cause_again from at Overflow end fits p = rw (u8_agrees.again from at 2 end (omega arith) p) refl
cause_again from at ZeroDivide end fits p = rw (u8_agrees.again from at 3 end (omega arith) p) refl
cause_again from at Kind end fits p = rw (u8_agrees.again from at 4 end (omega arith) p) refl
cause_again from at BadRow end fits p = rw (u8_agrees.again from at 5 end (omega arith) p) refl

cause_agrees : Agree cause_at cause_bytes IsCause
cause_agrees = record { found = cause_found; again = cause_again }

-- no reply is of another kind
pub no_reply : (kind at : ℕ) (from : List ℕ) (next : ℕ) → kind ≢ 0 → kind ≢ 1 → reply_of_kind kind at from next ≡ Err (Bad at)
unfolding reply_of_kind
no_reply zero at from next other last = absurd (other refl)
no_reply (suc zero) at from next other last = absurd (last refl)
no_reply (suc (suc kind)) at from next other last = refl

reply_found_of : (kind : ℕ) (from : List ℕ) (at next : ℕ) (p : Reply × ℕ) → AreBytes from → Stands from at (u8_bytes kind) next → reply_of_kind kind at from next ≡ Ok p → IsReply p.0 × Stands from at (reply_bytes p.0) p.1
unfolding reply_of_kind
reply_found_of zero from at next p fits first e =
    bind_then (value_at from next) (λ (v : Option Value × ℕ). Ok (reply.Ok v.0, v.1)) p e (λ v read ok.
    let a = value_agrees.found from next v.0 v.1 fits read in
    ok_then FieldFault (λ (q : Reply × ℕ). IsReply q.0 × Stands from at (reply_bytes q.0) q.1) (reply.Ok v.0, v.1) p ok
    (a.0, Stands-then from at (u8_bytes 0) next (value_bytes v.0) v.1 first a.1))
reply_found_of (suc zero) from at next p fits first e =
    bind_then (cause_at from next) (λ (v : Cause × ℕ). Ok (reply.Refused v.0, v.1)) p e (λ v read ok.
    let a = cause_agrees.found from next v.0 v.1 fits read in
    ok_then FieldFault (λ (q : Reply × ℕ). IsReply q.0 × Stands from at (reply_bytes q.0) q.1) (reply.Refused v.0, v.1) p ok
    (a.0, Stands-then from at (u8_bytes 1) next (cause_bytes v.0) v.1 first a.1))
reply_found_of (suc (suc kind)) from at next p fits first e = absurd cc

reply_found : (from : List ℕ) (at : ℕ) (r : Reply) (end : ℕ) → AreBytes from → reply_at from at ≡ Ok (r, end) → IsReply r × Stands from at (reply_bytes r) end
unfolding reply_at
reply_found from at r end fits e =
    bind_then (u8_at from at) (λ (kind : ℕ × ℕ). reply_of_kind kind.0 at from kind.1) (r, end) e (λ kind read next.
    reply_found_of kind.0 from at kind.1 (r, end) fits (u8_agrees.found from at kind.0 kind.1 fits read).1 next)

reply_again : (from : List ℕ) (at : ℕ) (r : Reply) (end : ℕ) → IsReply r → Stands from at (reply_bytes r) end → reply_at from at ≡ Ok (r, end)
unfolding reply_at reply_of_kind
reply_again from at (reply.Ok value) end fits p =
    let one = u8_agrees.again from at 0 (at + 1) (omega arith) (Stands-first from at (u8_bytes 0) (value_bytes value) end p) in
    let two = value_agrees.again from (at + 1) value end fits (Stands-second from at (u8_bytes 0) (value_bytes value) end p) in
    rw (one, two) refl
reply_again from at (reply.Refused cause) end fits p =
    let one = u8_agrees.again from at 1 (at + 1) (omega arith) (Stands-first from at (u8_bytes 1) (cause_bytes cause) end p) in
    let two = cause_agrees.again from (at + 1) cause end fits (Stands-second from at (u8_bytes 1) (cause_bytes cause) end p) in
    rw (one, two) refl

pub reply_agrees : Agree reply_at reply_bytes IsReply
reply_agrees = record { found = reply_found; again = reply_again }

pub record IsTimed (t : Timed) : Type 0 where
  pub id : t.id < 2 ^ 64
  pub call : IsCall t.call
  pub time : t.time < 2 ^ 64

abbrev pub bytes_of_timed : Timed → List ℕ
bytes_of_timed t = timed_bytes t.id t.call t.time

pub timed_agrees : Agree timed_at bytes_of_timed IsTimed
unfolding timed_at
timed_agrees =
    let parts : Timed → ℕ × (Call × ℕ) = λ t. (t.id, (t.call, t.time)) in
    let make : ℕ × (Call × ℕ) → Timed = λ t. record { id = t.0; call = t.1.0; time = t.1.1 } in
    agree_so (made_agrees make parts (u64_at ▸ call_at ▸ u64_at) (λ t. u64_bytes t.0 ++ (call_bytes t.1.0 ++ u64_bytes t.1.1)) (λ t. (t.0 < 2 ^ 64) × (IsCall t.1.0 × (t.1.1 < 2 ^ 64)))
    (pair_agrees u64_agrees (pair_agrees call_agrees u64_agrees))
    (λ t _. refl) (λ t _. refl))
    (λ _. refl) (λ t f. record { id = f.0; call = f.1.0; time = f.1.1 }) (λ t f. (f.id, (f.call, f.time)))

abbrev pub timed_of : Done → Timed
timed_of done = record { id = done.id; call = done.call; time = done.time }

-- the Done of its epoch
of_epoch : (epoch : ℕ) (d : Done) → d.epoch ≡ epoch → done_of epoch (timed_of d) d.reply ≡ d
of_epoch epoch d e i = record { id = d.id; call = d.call; epoch = sym e i; time = d.time; reply = d.reply }

done_found : (epoch : ℕ) (from : List ℕ) (at : ℕ) (done : Done) (end : ℕ) → AreBytes from → done_at epoch from at ≡ Ok (done, end) → ((done.epoch ≡ epoch) × IsDone done) × Stands from at (done_bytes done) end
unfolding done_at
done_found epoch from at done end fits e =
    bind_then ((timed_at ▸ reply_at) from at) (λ (d : (Timed × Reply) × ℕ). Ok (done_of epoch d.0.0 d.0.1, d.1)) (done, end) e (λ d read ok.
    let a = (pair_agrees timed_agrees reply_agrees).found from at d.0 d.1 fits read in
    ok_then FieldFault (λ (q : Done × ℕ). ((q.0.epoch ≡ epoch) × IsDone q.0) × Stands from at (done_bytes q.0) q.1) (done_of epoch d.0.0 d.0.1, d.1) (done, end) ok
    ((refl, record { id = a.0.0.id; call = a.0.0.call; time = a.0.0.time; reply = a.0.1 }), a.1))

done_again : (epoch : ℕ) (from : List ℕ) (at : ℕ) (done : Done) (end : ℕ) → (done.epoch ≡ epoch) × IsDone done → Stands from at (done_bytes done) end → done_at epoch from at ≡ Ok (done, end)
unfolding done_at
done_again epoch from at done end fits p =
    let f = fits.1 in
    let both = (pair_agrees timed_agrees reply_agrees).again from at (timed_of done, done.reply) end (record { id = f.id; call = f.call; time = f.time }, f.reply) p in
    rw (both, of_epoch epoch done fits.0) refl

pub done_agrees : (epoch : ℕ) → Agree (done_at epoch) done_bytes (λ done. (done.epoch ≡ epoch) × IsDone done)
done_agrees epoch = record { found = done_found epoch; again = done_again epoch }
