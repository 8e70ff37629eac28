use Rattle.std.proofs.Common.{ℕ, List, Vec, Global, sym, ap, ◌∙◌}
use Rattle.coco_make.proofs.FreeLemmas.{one_free, one_named}
use Rattle.coco_make.proofs.free.unnamed.Goals as goal
use Rattle.coco_make.proofs.free.unnamed.Goals.{then-not-contains+in_ok-push, else-not-contains}

pub loop-place-preserved : goal.loop-place-preserved
loop-place-preserved c =
    let named : List ℕ = c.args.named.now in
    let place : ℕ = c.loop-place.place in
    let old : List ℕ = c.loop-place.free.items in
    let new : List ℕ = c.if-not-contains.free.items in
    elim c.if-not-contains.branch [
      | then-not-contains+in_ok-push w ↦
          one_free named place old new c.loop-place.invariant (sym c.contains.ensures.value ∙ w.if-not-contains.true) (ap (λ (v : Vec ℕ Global). v.items) w.free-is ∙ w.in_ok-push.ensures.items)
      | else-not-contains w ↦
          one_named named place old new c.loop-place.invariant (sym c.contains.ensures.value ∙ w.if-not-contains.false) (ap (λ (v : Vec ℕ Global). v.items) w.free-is)
    ]
