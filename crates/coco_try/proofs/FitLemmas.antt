-- The requests of a workload fit: each is a call of a procedure that every store has.
use Rattle.std.proofs.Common.{ℕ, zero, suc, ◌+◌, Bool, true, false, ℤ, map, refl, sym, subst}
use Rattle.std.specs.List.{AllByRecursion, range_with_len}
use Rattle.std.specs.Prelude.{if◌then◌else◌}
use Rattle.coco_types.specs.declared.call.Request.{Request}
use Rattle.coco_ast.specs.Checks.{IsAccepted}
use Rattle.coco_ast.specs.Fitting.{Fits}
use Rattle.coco_ast.specs.Tree.{Procedures}
use Rattle.coco_gen.specs.Workload.{request_at, request_of, workload_of}

module _ (ps : Procedures) (accepted : IsAccepted ps) where
  addition_fits : (id row : ℕ) (amount : ℤ) → Fits ps (request_of id row amount).call
  addition_fits id row amount = subst (λ (p : Procedures). Fits p (request_of id row amount).call) (sym accepted.whole) refl

  either_fits : (b : Bool) (id row other : ℕ) (amount less : ℤ) → Fits ps (if b then request_of id row amount else request_of id other less).call
  either_fits true id row other amount less = addition_fits id row amount
  either_fits false id row other amount less = addition_fits id other less

  each_fits : (seed place : ℕ) → Fits ps (request_at seed place).call
  each_fits seed place = either_fits _ _ _ _ _ _

  all_fit : (seed start count : ℕ) → AllByRecursion (λ (r : Request). Fits ps r.call) (map (request_at seed) (range_with_len start count))
  all_fit seed start zero = tt
  all_fit seed start (suc count) = (each_fits seed start, all_fit seed (start + 1) count)

  pub workload_fits : (calls seed : ℕ) → AllByRecursion (λ (r : Request). Fits ps r.call) (workload_of calls seed)
  workload_fits calls seed = all_fit seed 0 calls
