-- A node's place behind a partition's primary, round the ring.
use Rattle.std.proofs.Common.{◌≡◌, ℕ, ◌+◌, ◌-◌, ◌%◌, ◌<◌, ◌≤◌, sym, ap, ◌∙◌, arith, ⊎_elim}
use Rattle.std.proofs.lemmas.Bool.{cases_lt}
use Rattle.std.proofs.lemmas.Nat.{mod_below}
use Rattle.std.proofs.Math.Nat.{add-mod, add-mod_left, mod-eq_of_lt, mod-le}
use Rattle.coco_entry.specs.declared.layout.Layout.{Layout}
use Rattle.coco_store.specs.Placement.{IsHeldBy}

-- how far a node stands behind a place of the ring
abbrev behind : ℕ → ℕ → ℕ → ℕ
behind nodes first n = ((nodes + n) - first) % nodes

once_round : (nodes x : ℕ) → x < nodes → (nodes + x) % nodes ≡ x
once_round nodes x less = add-mod_left nodes x ∙ mod-eq_of_lt less

reached : (nodes first n : ℕ) → first < nodes → n < nodes → (first + behind nodes first n) % nodes ≡ n
reached nodes first n low less = ⊎_elim (λ over. across over) (λ le. along le) (cases_lt n first)
  where
    along : first ≤ n → (first + behind nodes first n) % nodes ≡ n
    along le =
        let far : (nodes + n) - first ≡ nodes + (n - first) = omega arith in
        let is : behind nodes first n ≡ n - first = ap (λ m. m % nodes) far ∙ once_round nodes (n - first) (omega arith) in
        let there : first + behind nodes first n ≡ n = omega (arith, is) in
        ap (λ m. m % nodes) there ∙ mod-eq_of_lt less

    across : n < first → (first + behind nodes first n) % nodes ≡ n
    across over =
        let short : (nodes + n) - first < nodes = omega arith in
        let is : behind nodes first n ≡ (nodes + n) - first = mod-eq_of_lt short in
        let there : first + behind nodes first n ≡ nodes + n = omega (arith, is) in
        ap (λ m. m % nodes) there ∙ once_round nodes n less

alone : (nodes first n u : ℕ) → first < nodes → u < nodes → (first + u) % nodes ≡ n → behind nodes first n ≡ u
alone nodes first n u low less is = ⊎_elim (λ near. along near) (λ far. across far) (cases_lt (first + u) nodes)
  where
    along : first + u < nodes → behind nodes first n ≡ u
    along near =
        let at : first + u ≡ n = sym (mod-eq_of_lt near) ∙ is in
        let far : (nodes + n) - first ≡ nodes + u = omega arith in
        ap (λ m. m % nodes) far ∙ once_round nodes u less

    across : nodes ≤ first + u → behind nodes first n ≡ u
    across far =
        let over : first + u ≡ nodes + ((first + u) - nodes) = omega arith in
        let at : (first + u) - nodes ≡ n = sym (ap (λ m. m % nodes) over ∙ once_round nodes ((first + u) - nodes) (omega arith)) ∙ is in
        let here : (nodes + n) - first ≡ u = omega arith in
        ap (λ m. m % nodes) here ∙ mod-eq_of_lt less

-- how far a node stands behind the primary of a partition
abbrev pub place_of : Layout → ℕ → ℕ → ℕ
place_of layout p n = behind layout.nodes (p % layout.nodes) n

pub held_is : (layout : Layout) (p n : ℕ) → n < layout.nodes → place_of layout p n ≤ layout.copies → IsHeldBy layout p n
held_is layout p n less few =
    let nodes = layout.nodes in
    let low : p % nodes < nodes = mod_below p nodes (omega arith) in
    let j = place_of layout p n in
    let small : j % nodes ≡ j = mod-eq_of_lt (mod_below ((nodes + n) - p % nodes) nodes (omega arith)) in
    (j, few, sym (add-mod p j nodes ∙ ap (λ m. (p % nodes + m) % nodes) small ∙ reached nodes (p % nodes) n low less))

pub is_held : (layout : Layout) (p n : ℕ) → n < layout.nodes → IsHeldBy layout p n → place_of layout p n ≤ layout.copies
is_held layout p n less (j, few, is) =
    let nodes = layout.nodes in
    let low : p % nodes < nodes = mod_below p nodes (omega arith) in
    let u = j % nodes in
    let under : u < nodes = mod_below j nodes (omega arith) in
    let same : place_of layout p n ≡ u = alone nodes (p % nodes) n u low under (sym (add-mod p j nodes) ∙ sym is) in
    let most : u ≤ j = mod_at_most j nodes in
    omega (arith, same, most, few)
  where
    mod_at_most : (a m : ℕ) → a % m ≤ a
    mod_at_most a m = mod-le a m
