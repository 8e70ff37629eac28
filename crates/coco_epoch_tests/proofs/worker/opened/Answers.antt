use Rattle.std.proofs.Common.{◌≡◌, ℕ, List, [], ◌∷◌, ◌++◌, map, length, slice_index_or, Option, Some, refl, sym, ap, ◌∙◌, subst, arith}
use Rattle.std.specs.Global.{Vec}
use Rattle.std.specs.List.{cons_option, slice_get}
use Rattle.std.proofs.lemmas.List.{length-append}
use Rattle.coco_desks.specs.Desks.{AreDealt}
use Rattle.coco_desks.specs.Gains.{AreOf}
use Rattle.coco_desks.specs.Locking.{AreStarted}
use Rattle.coco_desks.specs.Rows.{column}
use Rattle.coco_journaled.specs.Passes.{Passing, new_pass}
use Rattle.coco_seen.specs.Notes.{Lock, TableId}
use Rattle.coco_seen.specs.Rules.{numbers}
use Rattle.coco_epoch_tests.proofs.StartedLemmas.{as_many_locks}
use Rattle.coco_epoch_tests.proofs.worker.opened.Goals as goal

module _ {M Q A : Type 0} where
  -- a worker's row has a pass of each lock
  module _ (worker : ℕ) (is_new : (lock : TableId) (root : M) → slice_get (map (new_pass {Q = Q} {A = A} lock root) (numbers 0 2)) worker ≡ Some (new_pass lock root worker)) where
    row_of : (machines : List M) (locks : List Lock) (trays : List (Vec (Passing M Q A))) → AreStarted 2 machines locks trays → AreOf locks (column worker trays)
    row_of [] [] [] are = refl
    row_of [] [] (t ∷ ts) are = absurd are
    row_of [] (l ∷ ls) ts are = absurd are
    row_of (m ∷ ms) [] ts are = absurd are
    row_of (m ∷ ms) (l ∷ ls) [] are = absurd are
    row_of (m ∷ ms) (l ∷ ls) (t ∷ ts) are =
        ap (λ (o : Option (Passing M Q A)). map (λ (p : Passing M Q A). p.lock) (cons_option o (column worker ts))) (ap (λ (ps : List (Passing M Q A)). slice_get ps worker) are.0.passes ∙ is_new l.id m)
        ∙ ap (λ (ids : List TableId). l.id ∷ ids) (row_of ms ls ts are.1)

  both_rows : (machines : List M) (locks : List Lock) (rows : List (Vec (Passing M Q A))) (d : Vec (Passing M Q A)) → AreDealt 2 machines locks rows
      → AreOf locks (slice_index_or rows 0 d).items × AreOf locks (slice_index_or rows 1 d).items
  both_rows machines locks rows d dealt = (
    subst (AreOf locks) (sym (dealt.rows_are 0 d (omega arith))) (row_of 0 (λ lock root. refl) machines locks dealt.trays dealt.started),
    subst (AreOf locks) (sym (dealt.rows_are 1 d (omega arith))) (row_of 1 (λ lock root. refl) machines locks dealt.trays dealt.started),
  )

-- the two that were popped off a list of two
two_popped : {X : Type 0} (all first none : List X) (x y d : X) → all ≡ first ++ y ∷ [] → first ≡ none ++ x ∷ [] → length all ≡ 2 → (slice_index_or all 0 d ≡ x) × (slice_index_or all 1 d ≡ y)
two_popped all first [] x y d last before two =
    let is : all ≡ x ∷ y ∷ [] = last ∙ ap (λ (xs : List _). xs ++ y ∷ []) before in
    (ap (λ (xs : List _). slice_index_or xs 0 d) is, ap (λ (xs : List _). slice_index_or xs 1 d) is)
two_popped all first (z ∷ zs) x y d last before two =
    let count = ap length last ∙ length-append first (y ∷ []) in
    let fewer = ap length before ∙ length-append (z ∷ zs) (x ∷ []) in
    absurd (omega (arith, two, count, fewer))

pub returns-clause-of : goal.returns-clause-of
returns-clause-of g c =
    let dealt = c.in-Ok.ensures.open.dealt in
    let popped = two_popped c.in-Ok.rows.items _ _ c.in-Some-Some.passes c.in-Some-Some.others c.in-Some-Some.passes c.in-Some-Some.ensures.items c.in-Some-Some.ensures'.items dealt.count in
    subst (λ (row : Vec _). AreOf c.in-Ok.desk.locks.items row.items) popped.0 (both_rows _ _ _ c.in-Some-Some.passes dealt).0

pub returns-clause-others : goal.returns-clause-others
returns-clause-others g c =
    let dealt = c.in-Ok.ensures.open.dealt in
    let popped = two_popped c.in-Ok.rows.items _ _ c.in-Some-Some.passes c.in-Some-Some.others c.in-Some-Some.passes c.in-Some-Some.ensures.items c.in-Some-Some.ensures'.items dealt.count in
    subst (λ (row : Vec _). AreOf c.in-Ok.desk.locks.items row.items) popped.1 (both_rows _ _ _ c.in-Some-Some.passes dealt).1

pub returns-clause-count : goal.returns-clause-count
returns-clause-count g c =
    let dealt = c.in-Ok.ensures.open.dealt in
    c.in-Ok.desk.locks.ok.0 ∙ as_many_locks 2 c.args.machines.items c.in-Ok.desk.locks.items dealt.trays dealt.started ∙ sym c.args.machines.ok.0
