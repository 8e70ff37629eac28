-- Which calls the built-in procedures take, case by case.
use Rattle.std.proofs.lemmas.Bool.Decides.{nat_tests}
use Rattle.std.proofs.Common.{◌<◌, ◌&&◌, nat_eq, ◌≡◌, ℕ, zero, suc, Bool, true, false, List, [], ◌∷◌, length, Option, arith}
use Rattle.coco_types.specs.declared.value.Value.{Value}
use Rattle.coco_types.specs.declared.call.Call.{Call}
use Rattle.coco_ast.specs.Fitting.{Fits}
use Rattle.coco_ast.specs.Builtins.{builtins}

-- a call of get, of put or of add
pub data IsBuiltinCall : Call → Type 0 where
  gets : (a : Option Value) (snapshot : Bool) → IsBuiltinCall (record { proc_no = 0; args = a ∷ []; snapshot = snapshot })
  puts : (a v : Option Value) → IsBuiltinCall (record { proc_no = 1; args = a ∷ v ∷ []; snapshot = false })
  adds : (a n : Option Value) → IsBuiltinCall (record { proc_no = 2; args = a ∷ n ∷ []; snapshot = false })

no_length : (m n : ℕ) (b : Bool) → m < n → nat_eq n m && b ≡ true → ⊥
no_length m n b below h = grind (arith, nat_tests)

pub builtin_call : (number : ℕ) (args : List (Option Value)) (snapshot : Bool) → Fits builtins (record { proc_no = number; args = args; snapshot = snapshot })
    → IsBuiltinCall (record { proc_no = number; args = args; snapshot = snapshot })
builtin_call zero [] snapshot h = let e : false ≡ true = h in cc
builtin_call zero (a ∷ []) snapshot h = gets a snapshot
builtin_call zero (a ∷ b ∷ more) snapshot h = absurd (no_length 1 (suc (suc (length more))) _ (omega arith) h)
builtin_call (suc zero) [] snapshot h = let e : false ≡ true = h in cc
builtin_call (suc zero) (a ∷ []) snapshot h = let e : false ≡ true = h in cc
builtin_call (suc zero) (a ∷ v ∷ []) true h = let e : false ≡ true = h in cc
builtin_call (suc zero) (a ∷ v ∷ []) false h = puts a v
builtin_call (suc zero) (a ∷ v ∷ b ∷ more) snapshot h = absurd (no_length 2 (suc (suc (suc (length more)))) _ (omega arith) h)
builtin_call (suc (suc zero)) [] snapshot h = let e : false ≡ true = h in cc
builtin_call (suc (suc zero)) (a ∷ []) snapshot h = let e : false ≡ true = h in cc
builtin_call (suc (suc zero)) (a ∷ v ∷ []) true h = let e : false ≡ true = h in cc
builtin_call (suc (suc zero)) (a ∷ v ∷ []) false h = adds a v
builtin_call (suc (suc zero)) (a ∷ v ∷ b ∷ more) snapshot h = absurd (no_length 2 (suc (suc (suc (length more)))) _ (omega arith) h)
builtin_call (suc (suc (suc n))) args snapshot h = let e : false ≡ true = h in cc
