-- One new request more.
use Rattle.std.proofs.Common.{◌≡◌, ℕ, Bool, true, false, cond, nat_eq, List, [], ◌∷◌, ◌++◌, map, Option, None, Some, refl, ◌∙◌, arith, length-append}
use Rattle.std.specs.List.{AllByRecursion, IsDistinct}
use Rattle.std.proofs.lemmas.Cmp.{nat_eq_equiv}
use Rattle.coco_types.specs.declared.call.Request.{Request}
use Rattle.coco_ast.specs.History.{AreAbove}
use Rattle.coco_kept.specs.Keeping.{Keeping}
use Rattle.coco_batches.specs.Asking.{AreNew, MayJoin, request_under}

pub all_more : {X : Type 0} (P : X → Type 0) (xs : List X) (x : X) → AllByRecursion P xs → P x → AllByRecursion P (xs ++ x ∷ [])
all_more P [] x all one = (one, tt)
all_more P (y ∷ xs) x all one = (all.0, all_more P xs x all.1 one)

unknown_step : (b : Bool) (q : Request) (rest : Option Request) → cond b (Some q) rest ≡ None → (b ≡ false) × (rest ≡ None)
unknown_step true q rest h = let e : ◌≡◌ {A = Option Request} (Some q) None = h in cc
unknown_step false q rest h = (refl, h)

-- an id that no request has differs from that of each
others_differ : (q : Request) (before : List Request) (r : Request) → nat_eq r.id q.id ≡ false → AllByRecursion (λ (y : ℕ). nat_eq q.id y ≡ false) (map (λ (x : Request). x.id) before)
    → AllByRecursion (λ (y : ℕ). nat_eq q.id y ≡ false) (map (λ (x : Request). x.id) (before ++ r ∷ []))
others_differ q [] r differ all = (nat_eq_equiv.symm q.id r.id ∙ differ, tt)
others_differ q (x ∷ before) r differ all = (all.0, others_differ q before r differ all.1)

-- behind distinct ids an id that isn't among them is distinct too
distinct_more : (before : List Request) (r : Request) → request_under r.id before ≡ None → IsDistinct nat_eq (map (λ (q : Request). q.id) before)
    → IsDistinct nat_eq (map (λ (q : Request). q.id) (before ++ r ∷ []))
unfolding IsDistinct
distinct_more [] r none once = (tt, tt)
distinct_more (q ∷ before) r none once =
    let parts = unknown_step (nat_eq r.id q.id) q (request_under r.id before) none in
    (others_differ q before r parts.0 once.0, distinct_more before r parts.1 once.1)

above_more : (floor : Option ℕ) (before : List Request) (r : Request) → AreAbove floor (map (λ (q : Request). q.id) before) → AreAbove floor (r.id ∷ []) → AreAbove floor (map (λ (q : Request). q.id) (before ++ r ∷ []))
above_more None before r all one = tt
above_more (Some n) [] r all one = one
above_more (Some n) (q ∷ before) r all one = (all.0, above_more (Some n) before r all.1 one)

pub joined : (held : Keeping) (before : List Request) (r : Request) → AreNew held before → MayJoin held before r → AreNew held (before ++ r ∷ [])
joined held before r new may = record {
  distinct = distinct_more before r may.not_before new.distinct;
  absent = all_more _ before r new.absent may.not_kept;
  above = above_more held.floor before r new.above may.above;
  few = omega (arith, length-append before (r ∷ []), may.room);
}
