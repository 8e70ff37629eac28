-- The holder of a partition that comes behind another is another one.
use Rattle.std.proofs.Common.{◌≡◌, ◌≢◌, ℕ, ◌+◌, ◌%◌, ◌<◌, ◌≤◌, ◌==◌, true, false, cond, refl, sym, ap, ◌∙◌, arith}
use Rattle.std.proofs.lemmas.Bool.{eqb-false, eqb-true}
use Rattle.coco_entry.specs.declared.layout.Layout.{Layout}
use Rattle.coco_load.proofs.Ring.{one_round}
use Rattle.coco_store.specs.Placement.{IsHeldBy}
use Rattle.coco_rebuild.specs.Rebuilding.{IsHeldAlone, holder_behind}

module _ (layout : Layout) where
  -- a holder, which isn't the node
  pub record IsOther (node p n : ℕ) : Type 0 where
    pub held : IsHeldBy layout p n
    pub other : n ≢ node

  pub no_copies : (node p j : ℕ) → layout.copies ≡ 0 → p < layout.partitions → j ≤ layout.copies → node ≡ (p + j) % layout.nodes → IsHeldAlone layout node p
  no_copies node p j none within le held = record {
    within = within;
    held = (j, le, held);
    alone = λ n by.
        let least : j ≡ 0 = omega (arith, le, none) in
        let same : by.0 ≡ j = (let few = by.1 in omega (arith, few, none, least)) in
        by.2 ∙ ap (λ (i : ℕ). (p + i) % layout.nodes) same ∙ sym held;
  }

  pub next_holder : (node p j : ℕ) → layout.copies < layout.nodes → ((q : ℕ) → ¬ (IsHeldAlone layout node q)) → p < layout.partitions → j ≤ layout.copies → node ≡ (p + j) % layout.nodes
      → IsOther node p (holder_behind layout p j)
  next_holder node p j around others within le held =
      elim (j == layout.copies) as (λ b. (j == layout.copies) ≡ b → IsOther node p (cond b (p % layout.nodes) ((p + (j + 1)) % layout.nodes))) [
        | true ↦ λ t. (let last : j ≡ layout.copies = eqb-true j layout.copies t in
            let no_more : p ≡ p + 0 = omega arith in
            let first : p % layout.nodes ≡ (p + 0) % layout.nodes = ap (λ (x : ℕ). x % layout.nodes) no_more in
            record {
              held = (0, omega arith, first);
              other = λ same.
                  let none : 0 ≡ j = one_round layout.nodes p 0 j (omega (arith, around)) (omega (arith, around, le)) (sym first ∙ same ∙ held) in
                  others p (no_copies node p j (omega (arith, none, last)) within le held);
            })
        | false ↦ λ f. (let before : j ≢ layout.copies = eqb-false j layout.copies f in
            let less : j + 1 ≤ layout.copies = omega (arith, le, before) in
            record {
              held = (j + 1, less, refl);
              other = λ same. let again : j + 1 ≡ j = one_round layout.nodes p (j + 1) j (omega (arith, around, less)) (omega (arith, around, le)) (same ∙ held) in omega (arith, again);
            })
      ] refl

  -- and it is one of the nodes
  pub is_node : (p n : ℕ) → 0 < layout.nodes → IsHeldBy layout p n → n < layout.nodes
  is_node p n some held = let is = held.2 in omega (arith, some, is)
