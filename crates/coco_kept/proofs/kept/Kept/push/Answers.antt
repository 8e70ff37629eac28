use Rattle.std.proofs.Common.{◌≡◌, ℕ, ◌+◌, ◌≤◌, ◌%◌, ◌^◌, ◌++◌, ◌∷◌, [], length, cond, Some, ap, sym, subst, ◌∙◌, arith, nat_eq}
use Rattle.std.specs.HashMap.{get}
use Rattle.coco_ast.specs.History.{done_of}
use Rattle.coco_kept.specs.Holding.{AreUpTo, epoch_count, epochs_of}
use Rattle.coco_kept.specs.Keeping.{Keeping}
use Rattle.coco_kept.proofs.Counts.{fresh}
use Rattle.coco_kept.proofs.HoldLemmas.{held-push, epochs_few, one, fresh_by}
use Rattle.coco_kept.proofs.kept.Kept.push.Goals as goal

pub overflow_add-self : goal.overflow_add-self
overflow_add-self c = omega (arith, epochs_few c.self.inside.dones.items, c.self.invariant.counted)

pub invariant_of-self : goal.invariant_of-self
invariant_of-self c =
    let put = rw c.unwrap-none.ensures at c.insert-put.ensures.updates in
    let long : c.len.result ≡ length c.self.inside.dones.items = omega arith in
    let new : fresh c.args.done.epoch (epochs_of c.self.inside.dones.items) ≡ 1 =
    ap (λ k. fresh c.args.done.epoch (epochs_of k.dones)) c.self.view_is ∙ fresh_by c.args.done.epoch c.args.self.now.dones c.begins_epoch-begins.result c.begins_epoch-begins.ensures ∙ ap one c.if-begins.true in
    held-push c.self.inside.dones.items c.push_back_reserved.new.self.items _ _ c.self.inside.first c.self.inside.epochs (c.self.inside.epochs + 1) c.self.inside.keep c.args.done c.self.invariant
    c.push_back_reserved.ensures.items (λ id. put.0 id ∙ ap (λ n. cond (nat_eq c.args.done.id id) (Some ((c.self.inside.first + n) % 2 ^ 64)) (get nat_eq c.self.inside.numbers id)) long)
    (ap (λ k. done_of c.args.done.id k.dones) c.self.view_is ∙ c.requires.new)
    (subst (λ (k : Keeping). AreUpTo c.args.done.epoch k.dones) (sym c.self.view_is) c.requires.last)
    (omega (arith, new))
    (subst (λ (k : Keeping). (n : ℕ) → k.keep ≡ Some n → epoch_count (k.dones ++ c.args.done ∷ []) ≤ n) (sym c.self.view_is) c.requires.within)

pub invariant_of-self-else-begins : goal.invariant_of-self-else-begins
invariant_of-self-else-begins c =
    let put = rw c.unwrap-none.ensures at c.insert-put.ensures.updates in
    let long : c.len.result ≡ length c.self.inside.dones.items = omega arith in
    let old : fresh c.args.done.epoch (epochs_of c.self.inside.dones.items) ≡ 0 =
    ap (λ k. fresh c.args.done.epoch (epochs_of k.dones)) c.self.view_is ∙ fresh_by c.args.done.epoch c.args.self.now.dones c.begins_epoch-begins.result c.begins_epoch-begins.ensures ∙ ap one c.if-begins.false in
    held-push c.self.inside.dones.items c.push_back_reserved.new.self.items _ _ c.self.inside.first c.self.inside.epochs c.self.inside.epochs c.self.inside.keep c.args.done c.self.invariant
    c.push_back_reserved.ensures.items (λ id. put.0 id ∙ ap (λ n. cond (nat_eq c.args.done.id id) (Some ((c.self.inside.first + n) % 2 ^ 64)) (get nat_eq c.self.inside.numbers id)) long)
    (ap (λ k. done_of c.args.done.id k.dones) c.self.view_is ∙ c.requires.new)
    (subst (λ (k : Keeping). AreUpTo c.args.done.epoch k.dones) (sym c.self.view_is) c.requires.last)
    (omega (arith, old))
    (subst (λ (k : Keeping). (n : ℕ) → k.keep ≡ Some n → epoch_count (k.dones ++ c.args.done ∷ []) ≤ n) (sym c.self.view_is) c.requires.within)
