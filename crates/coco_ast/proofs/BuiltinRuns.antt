-- What the runs of the built-in procedures come to.
use Rattle.std.proofs.Common.{◌≡◌, refl, ℕ, Bool, [], ◌∷◌, None, Some, Ok, Err, ℤ, pos, ◌+ℤ◌, true, false}
use Rattle.coco_types.specs.declared.value.Value.TheVariants.{Int, Text}
use Rattle.coco_types.specs.RowKey.{RowKey}
use Rattle.coco_types.specs.declared.call.Reply.TheVariants.{Ok as Answers, Refused}
use Rattle.coco_ast.specs.Keyed.{Rows, value_at, write_at}
use Rattle.coco_ast.specs.Meaning.{Datum, Computed, Run, run, row_key, combined, fits}
use Rattle.coco_ast.specs.Tree.{Add}
use Rattle.coco_ast.specs.Builtins.{builtins}

-- get: the row's value
abbrev pub got : Rows → Computed RowKey → Run
got m (Ok k) = record { reply = Answers (value_at m k); rows = m; needs = k ∷ []; writes = [] }
got m (Err c) = record { reply = Refused c; rows = m; needs = []; writes = [] }

-- put: the value that was given, which the row has now
abbrev pub stored : Rows → Datum → Computed RowKey → Run
stored m v (Ok k) = record { reply = Answers v; rows = write_at m k v; needs = []; writes = record { key = k; value = v } ∷ [] }
stored m v (Err c) = record { reply = Refused c; rows = m; needs = []; writes = [] }

-- the row's value, or 0 where it has none
abbrev pub or_zero : Datum → Datum
or_zero None = Some (Int (pos 0))
or_zero (Some v) = Some v

-- add: the sum, which the row has now
abbrev pub summed : Rows → RowKey → Computed Datum → Run
summed m k (Ok v) = record { reply = Answers v; rows = write_at m k v; needs = k ∷ []; writes = record { key = k; value = v } ∷ [] }
summed m k (Err c) = record { reply = Refused c; rows = m; needs = k ∷ []; writes = [] }

abbrev pub added : Rows → Datum → Computed RowKey → Run
added m n (Ok k) = summed m k (combined Add (or_zero (value_at m k)) n)
added m n (Err c) = record { reply = Refused c; rows = m; needs = []; writes = [] }

pub run-get : (m : Rows) (snapshot : Bool) (a : Datum) → run builtins (record { proc_no = 0; args = a ∷ []; snapshot = snapshot }) m ≡ got m (row_key 0 a)
unfolding run
run-get m snapshot None = refl
run-get m snapshot (Some (Int (pos n))) = refl
run-get m snapshot (Some (Int (ℤ.negsuc n))) = refl
run-get m snapshot (Some (Text t)) = refl

pub run-put : (m : Rows) (snapshot : Bool) (a v : Datum) → run builtins (record { proc_no = 1; args = a ∷ v ∷ []; snapshot = snapshot }) m ≡ stored m v (row_key 0 a)
unfolding run
run-put m snapshot None v = refl
run-put m snapshot (Some (Int (pos n))) v = refl
run-put m snapshot (Some (Int (ℤ.negsuc n))) v = refl
run-put m snapshot (Some (Text t)) v = refl

abbrev pub AddsAt : Rows → Bool → ℕ → Datum → Datum → Type 0
AddsAt m snapshot r n held =
    run builtins (record { proc_no = 2; args = Some (Int (pos r)) ∷ n ∷ []; snapshot = snapshot }) m
    ≡ summed m (record { table = 0; row = r }) (combined Add (or_zero held) n)

-- the sum fits or it doesn't, for a row without a value, and for one with a number
adds_to_none : (m : Rows) (snapshot : Bool) (r : ℕ) (y : ℤ) → value_at m (record { table = 0; row = r }) ≡ None
    → (b : Bool) → fits (pos 0 +ℤ y) ≡ b → AddsAt m snapshot r (Some (Int y)) None
unfolding run
adds_to_none m snapshot r y e true f = rw (e, f) refl
adds_to_none m snapshot r y e false f = rw (e, f) refl

adds_to_number : (m : Rows) (snapshot : Bool) (r : ℕ) (x y : ℤ) → value_at m (record { table = 0; row = r }) ≡ Some (Int x)
    → (b : Bool) → fits (x +ℤ y) ≡ b → AddsAt m snapshot r (Some (Int y)) (Some (Int x))
unfolding run
adds_to_number m snapshot r x y e true f = rw (e, f) refl
adds_to_number m snapshot r x y e false f = rw (e, f) refl

adds_at : (m : Rows) (snapshot : Bool) (r : ℕ) (n held : Datum) → value_at m (record { table = 0; row = r }) ≡ held → AddsAt m snapshot r n held
unfolding run
adds_at m snapshot r None None e = rw e refl
adds_at m snapshot r None (Some (Int x)) e = rw e refl
adds_at m snapshot r None (Some (Text t)) e = rw e refl
adds_at m snapshot r (Some (Text u)) None e = rw e refl
adds_at m snapshot r (Some (Text u)) (Some (Int x)) e = rw e refl
adds_at m snapshot r (Some (Text u)) (Some (Text t)) e = rw e refl
adds_at m snapshot r (Some (Int y)) (Some (Text t)) e = rw e refl
adds_at m snapshot r (Some (Int y)) None e = adds_to_none m snapshot r y e _ refl
adds_at m snapshot r (Some (Int y)) (Some (Int x)) e = adds_to_number m snapshot r x y e _ refl

pub run-add : (m : Rows) (snapshot : Bool) (a n : Datum) → run builtins (record { proc_no = 2; args = a ∷ n ∷ []; snapshot = snapshot }) m ≡ added m n (row_key 0 a)
unfolding run
run-add m snapshot None n = refl
run-add m snapshot (Some (Int (pos r))) n = adds_at m snapshot r n (value_at m (record { table = 0; row = r })) refl
run-add m snapshot (Some (Int (ℤ.negsuc r))) n = refl
run-add m snapshot (Some (Text t)) n = refl
