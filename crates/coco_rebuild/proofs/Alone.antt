-- Which partitions a node holds alone.
use Rattle.std.proofs.Common.{◌≡◌, ◌≢◌, ℕ, ◌+◌, ◌*◌, ◌%◌, ◌<◌, ◌≤◌, refl, sym, ap, ◌∙◌, arith, ⊎_elim}
use Rattle.std.proofs.Math.Nat.{mod-add-div'}
use Rattle.std.proofs.lemmas.Bool.{cases_lt}
use Rattle.std.proofs.lemmas.Nat.{mod-mul-add}
use Rattle.coco_entry.specs.declared.layout.Layout.{Layout}
use Rattle.coco_load.proofs.Ring.{one_round}
use Rattle.coco_store.specs.Refusals.{IsFirst}
use Rattle.coco_rebuild.specs.Rebuilding.{IsHeldAlone}
use Rattle.coco_rebuild.proofs.Holders.{no_copies}

small_mod : (n w : ℕ) → n < w → n % w ≡ n
small_mod n w less = let same : n ≡ 0 * w + n = omega arith in ap (λ (x : ℕ). x % w) same ∙ mod-mul-add 0 w n less

pub more_than_none : (n : ℕ) → n ≢ 0 → 0 < n
more_than_none n other = omega (arith, other)

module _ (layout : Layout) (node : ℕ) (less : node < layout.nodes) where
  -- without copies a partition is held by its primary
  primary : (p : ℕ) → layout.copies ≡ 0 → (h : IsHeldAlone layout node p) → node ≡ p % layout.nodes
  primary p none h =
      let few = h.held.1 in
      let least : h.held.0 ≡ 0 = omega (arith, few, none) in
      let same : p + h.held.0 ≡ p = omega (arith, least) in
      h.held.2 ∙ ap (λ (x : ℕ). x % layout.nodes) same

  pub alone_here : layout.copies ≡ 0 → node < layout.partitions → IsFirst (IsHeldAlone layout node) node
  alone_here none within =
      let same : node + 0 ≡ node = omega arith in
      record {
        refused = no_copies layout node node 0 none within (omega arith) (sym (ap (λ (x : ℕ). x % layout.nodes) same ∙ small_mod node layout.nodes less));
        least = λ b h. (let at = primary b none h in let whole = mod-add-div' b layout.nodes in omega (arith, at, whole));
      }

  -- with copies there is another holder
  pub not_with_copies : 0 < layout.copies → layout.copies < layout.nodes → (p : ℕ) → ¬ (IsHeldAlone layout node p)
  not_with_copies some around p h =
      let few = h.held.1 in
      ⊎_elim
      (λ (more : 0 < h.held.0). (let one : 0 ≡ h.held.0 = one_round layout.nodes p 0 h.held.0 (omega (arith, less)) (omega (arith, few, around)) (h.alone ((p + 0) % layout.nodes) (0, omega arith, refl) ∙ h.held.2) in
      omega (arith, one, more)))
      (λ (none : h.held.0 ≤ 0). (let one : 1 ≡ h.held.0 = one_round layout.nodes p 1 h.held.0 (omega (arith, some, around)) (omega (arith, few, around)) (h.alone ((p + 1) % layout.nodes) (1, omega (arith, some), refl) ∙ h.held.2) in
      omega (arith, one, none)))
      (cases_lt 0 h.held.0)

  -- a node behind all partitions is no primary
  pub not_far : layout.copies ≡ 0 → layout.partitions ≤ node → (p : ℕ) → ¬ (IsHeldAlone layout node p)
  not_far none far p h =
      let within = h.within in
      let at = primary p none h in
      let small : p % layout.nodes ≡ p = small_mod p layout.nodes (omega (arith, within, far, less)) in
      omega (arith, within, far, at, small)
