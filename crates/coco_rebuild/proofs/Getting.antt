-- What a node gets from the two next holders is what each of its partitions has there.
use Rattle.std.proofs.Common.{◌≡◌, ◌≢◌, ◌⊎◌, inl, inr, ⊎_elim, ℕ, ◌+◌, ◌-◌, ◌*◌, ◌/◌, ◌%◌, ◌<◌, ◌≤◌, ◌==◌, ◌&&◌, Bool, true, false, cond, nat_eq, List, [], ◌∷◌, ◌++◌, filter, refl, sym, ap, ◌∙◌, arith}
use Rattle.std.specs.Prelude.{nat_le, nat_lt}
use Rattle.std.specs.List.{AllByRecursion, flat_map}
use Rattle.std.proofs.Math.Nat.{mod-add-div'}
use Rattle.std.proofs.lemmas.Bool.{eq-eqb, eqb-false, eqb-true, le-leb, leb-true, ltb-false, ltb-true, ne_eqb}
use Rattle.std.proofs.lemmas.Nat.{mod-mul-add, mod_below}
use Rattle.coco_types.specs.RowKey.{RowKey, partition_of}
use Rattle.coco_ast.proofs.Lists.{all_append}
use Rattle.coco_entry.specs.declared.layout.Layout.{Layout}
use Rattle.coco_entry.specs.declared.prepared.Prepared.{Prepared}
use Rattle.coco_entry.specs.declared.prepared.Row.{Row}
use Rattle.coco_load.proofs.Ring.{behind_above, behind_below, one_round}
use Rattle.coco_store.specs.Contents.{Contents}
use Rattle.coco_store.specs.Rules.{EachBehind, IsNextPrepared, IsNodeRow, Setting}
use Rattle.coco_rebuild.specs.Rebuilding.{IsHeldAlone, holder_behind, on_rows, rows_at}
use Rattle.coco_rebuild.specs.Sources.{AreGot, Interleaves, gets, node_after, node_first, nodes_behind}
use Rattle.coco_rebuild.proofs.Interleaving.{first_alone, second_alone}
use Rattle.coco_rebuild.proofs.Holders.{no_copies}

-- ---- round the ring

left_over : (w a b i j : ℕ) → i < w → j < w → a * w + i ≡ b * w + j → i ≡ j
left_over w a b i j below under same = sym (mod-mul-add a w i below) ∙ ap (λ (n : ℕ). n % w) same ∙ mod-mul-add b w j under

crossed : (p j n r s x y z : ℕ) → r + x ≡ p + (j + 1) → n + y ≡ p + j → s + z ≡ n + 1 → x + r ≡ (y + z) + s
crossed p j n r s x y z one two three = omega arith

two_times : (b d w : ℕ) → (b + d) * w ≡ b * w + d * w
two_times b d w = omega arith

pub goes_after : (w p j n : ℕ) → 0 < w → n ≡ (p + j) % w → (p + (j + 1)) % w ≡ (n + 1) % w
goes_after w p j n some held =
    let x : ℕ = (p + (j + 1)) / w in
    let y : ℕ = (p + j) / w in
    let z : ℕ = (n + 1) / w in
    let sum : x * w + (p + (j + 1)) % w ≡ (y * w + z * w) + (n + 1) % w =
    crossed p j n ((p + (j + 1)) % w) ((n + 1) % w) (x * w) (y * w) (z * w) (mod-add-div' (p + (j + 1)) w) (ap (λ (m : ℕ). m + y * w) held ∙ mod-add-div' (p + j) w) (mod-add-div' (n + 1) w) in
    left_over w x (y + z) ((p + (j + 1)) % w) ((n + 1) % w) (mod_below (p + (j + 1)) w some) (mod_below (n + 1) w some)
    (sum ∙ ap (λ (m : ℕ). m + (n + 1) % w) (sym (two_times y z w)))

turned : (p c n w r s x y z : ℕ) → c < w → r + x ≡ p → n + y ≡ p + c → s + z ≡ n + w - c → (x + w) + r ≡ (y + z) + s
turned p c n w r s x y z around one two three = omega arith

one_time : (b w : ℕ) → (b + 1) * w ≡ b * w + w
one_time b w = omega arith

pub goes_first : (w p c n : ℕ) → c < w → n ≡ (p + c) % w → p % w ≡ (n + w - c) % w
goes_first w p c n around held =
    let some : 0 < w = omega (arith, around) in
    let x : ℕ = p / w in
    let y : ℕ = (p + c) / w in
    let z : ℕ = (n + w - c) / w in
    let sum : (x * w + w) + p % w ≡ (y * w + z * w) + (n + w - c) % w =
    turned p c n w (p % w) ((n + w - c) % w) (x * w) (y * w) (z * w) around (mod-add-div' p w) (ap (λ (m : ℕ). m + y * w) held ∙ mod-add-div' (p + c) w) (mod-add-div' (n + w - c) w) in
    left_over w (x + 1) (y + z) (p % w) ((n + w - c) % w) (mod_below p w some) (mod_below (n + w - c) w some)
    (ap (λ (m : ℕ). m + p % w) (one_time x w) ∙ sum ∙ ap (λ (m : ℕ). m + (n + w - c) % w) (sym (two_times y z w)))

module _ (layout : Layout) (node : ℕ) (less : node < layout.nodes) (around : layout.copies < layout.nodes) where
  -- how far the node is behind a partition's primary
  pub behind_is : (p : ℕ) → (nodes_behind layout p node < layout.nodes) × ((p + nodes_behind layout p node) % layout.nodes ≡ node)
  behind_is p =
      let w : ℕ = layout.nodes in
      let low : p % w < w = mod_below p w (omega (arith, less)) in
      elim (nat_lt node (p % w)) as (λ b. nat_lt node (p % w) ≡ b → (cond b (node + w - p % w) (node - p % w) < w) × ((p + cond b (node + w - p % w) (node - p % w)) % w ≡ node)) [
        | true ↦ λ t. (let before : node < p % w = ltb-true node (p % w) t in (omega (arith, before, low), behind_below p node w before low))
        | false ↦ λ f. (let since : p % w ≤ node = ltb-false node (p % w) f in (omega (arith, since, less), behind_above p node w less since))
      ] refl

  one_place : (p j : ℕ) → j ≤ layout.copies → node ≡ (p + j) % layout.nodes → nodes_behind layout p node ≡ j
  one_place p j le held = let is = behind_is p in one_round layout.nodes p (nodes_behind layout p node) j is.0 (omega (arith, le, around)) (is.1 ∙ held)

  gets_is : (from p j : ℕ) (key : RowKey) → partition_of layout.partitions key ≡ p → j ≤ layout.copies → node ≡ (p + j) % layout.nodes → gets layout node from key ≡ (holder_behind layout p j == from)
  gets_is from p j key on le held =
      ap (λ (q : ℕ). nat_le (nodes_behind layout q node) layout.copies && (holder_behind layout q (nodes_behind layout q node) == from)) on
      ∙ ap (λ (i : ℕ). nat_le i layout.copies && (holder_behind layout p i == from)) (one_place p j le held)
      ∙ ap (λ (b : Bool). b && (holder_behind layout p j == from)) (le-leb j layout.copies le)

  -- the next holder is one of the two
  holder_is : (p j : ℕ) → j ≤ layout.copies → node ≡ (p + j) % layout.nodes → (holder_behind layout p j ≡ node_after layout node) ⊎ (holder_behind layout p j ≡ node_first layout node)
  holder_is p j le held =
      elim (j == layout.copies) as (λ b. (j == layout.copies) ≡ b → (cond b (p % layout.nodes) ((p + (j + 1)) % layout.nodes) ≡ node_after layout node) ⊎ (cond b (p % layout.nodes) ((p + (j + 1)) % layout.nodes) ≡ node_first layout node)) [
        | true ↦ λ t. inr (goes_first layout.nodes p layout.copies node around (held ∙ ap (λ (i : ℕ). (p + i) % layout.nodes) (eqb-true j layout.copies t)))
        | false ↦ λ f. inl (goes_after layout.nodes p j node (omega (arith, less)) held)
      ] refl

  -- ---- the rows of a partition that the node holds

  module _ (from p j : ℕ) (le : j ≤ layout.copies) (held : node ≡ (p + j) % layout.nodes) where
    off : (r : Row) (rs : List Row) → nat_eq (partition_of layout.partitions r.key) p ≡ false
        → on_rows layout p (cond (gets layout node from r.key) (r ∷ filter (λ x. gets layout node from x.key) rs) (filter (λ x. gets layout node from x.key) rs)) ≡ on_rows layout p (filter (λ x. gets layout node from x.key) rs)
    off r rs f =
        let those : List Row = filter (λ x. gets layout node from x.key) rs in
        elim (gets layout node from r.key) as (λ b. on_rows layout p (cond b (r ∷ those) those) ≡ on_rows layout p those) [
          | true ↦ ap (λ (b : Bool). cond b (r ∷ on_rows layout p those) (on_rows layout p those)) f
          | false ↦ refl
        ]

    -- from the holder that is next all of them come, from another one none
    pub gets_all : (holder_behind layout p j == from) ≡ true → (rows : List Row) → on_rows layout p (filter (λ x. gets layout node from x.key) rows) ≡ on_rows layout p rows
    gets_all from_it [] = refl
    gets_all from_it (r ∷ rs) =
        let those : List Row = filter (λ x. gets layout node from x.key) rs in
        elim (nat_eq (partition_of layout.partitions r.key) p) as (λ b. nat_eq (partition_of layout.partitions r.key) p ≡ b → on_rows layout p (cond (gets layout node from r.key) (r ∷ those) those) ≡ cond b (r ∷ on_rows layout p rs) (on_rows layout p rs)) [
          | true ↦ λ t. (let got : gets layout node from r.key ≡ true = gets_is from p j r.key (eqb-true (partition_of layout.partitions r.key) p t) le held ∙ from_it in
              ap (λ (b : Bool). on_rows layout p (cond b (r ∷ those) those)) got
              ∙ ap (λ (b : Bool). cond b (r ∷ on_rows layout p those) (on_rows layout p those)) t
              ∙ ap (λ (l : List Row). r ∷ l) (gets_all from_it rs))
          | false ↦ λ f. off r rs f ∙ gets_all from_it rs
        ] refl

    pub gets_none : (holder_behind layout p j == from) ≡ false → (rows : List Row) → on_rows layout p (filter (λ x. gets layout node from x.key) rows) ≡ []
    gets_none other [] = refl
    gets_none other (r ∷ rs) =
        let those : List Row = filter (λ x. gets layout node from x.key) rs in
        elim (nat_eq (partition_of layout.partitions r.key) p) as (λ b. nat_eq (partition_of layout.partitions r.key) p ≡ b → on_rows layout p (cond (gets layout node from r.key) (r ∷ those) those) ≡ []) [
          | true ↦ λ t. (let not_got : gets layout node from r.key ≡ false = gets_is from p j r.key (eqb-true (partition_of layout.partitions r.key) p t) le held ∙ other in
              ap (λ (b : Bool). on_rows layout p (cond b (r ∷ those) those)) not_got ∙ gets_none other rs)
          | false ↦ λ f. off r rs f ∙ gets_none other rs
        ] refl

  -- ---- both together

  some_copies : (p j : ℕ) → ((q : ℕ) → ¬ (IsHeldAlone layout node q)) → p < layout.partitions → j ≤ layout.copies → node ≡ (p + j) % layout.nodes → 0 < layout.copies
  some_copies p j others within le held =
      elim (nat_eq layout.copies 0) as (λ b. nat_eq layout.copies 0 ≡ b → 0 < layout.copies) [
        | true ↦ λ t. absurd (others p (no_copies layout node p j (eqb-true layout.copies 0 t) within le held))
        | false ↦ λ f. (let other = eqb-false layout.copies 0 f in omega (arith, other))
      ] refl

  module _ (c : Contents) (epoch : ℕ) (xs ys zs : List Row) (others : (q : ℕ) → ¬ (IsHeldAlone layout node q)) (got : AreGot layout node c epoch xs ys) (both : Interleaves xs ys zs) where
    abbrev after : ℕ
    after = node_after layout node

    abbrev first : ℕ
    first = node_first layout node

    module _ (p j : ℕ) (within : p < layout.partitions) (le : j ≤ layout.copies) (held : node ≡ (p + j) % layout.nodes) where
      abbrev n : ℕ
      n = holder_behind layout p j

      some : 0 < layout.copies
      some = some_copies p j others within le held

      -- the second list has none, where the first source is the next holder
      no_second : n ≡ after → on_rows layout p ys ≡ []
      no_second is =
          elim (nat_eq after first) as (λ b. nat_eq after first ≡ b → on_rows layout p ys ≡ []) [
            | true ↦ λ t. ap (on_rows layout p) (got.one (eqb-true after first t))
            | false ↦ λ f. (let apart : after ≢ first = eqb-false after first f in
                ap (on_rows layout p) (got.first some apart)
                ∙ gets_none first p j le held (ne_eqb n first (λ e. apart (sym is ∙ e))) (rows_at epoch (c.prepared first)))
          ] refl

      by_first : n ≡ after → on_rows layout p zs ≡ on_rows layout p (rows_at epoch (c.prepared n))
      by_first is =
          first_alone (λ r. nat_eq (partition_of layout.partitions r.key) p) xs ys zs both (no_second is)
          ∙ ap (on_rows layout p) (got.after some)
          ∙ gets_all after p j le held (eq-eqb n after is) (rows_at epoch (c.prepared after))
          ∙ ap (λ (m : ℕ). on_rows layout p (rows_at epoch (c.prepared m))) (sym is)

      by_second : n ≡ first → after ≢ first → on_rows layout p zs ≡ on_rows layout p (rows_at epoch (c.prepared n))
      by_second is apart =
          let none : on_rows layout p xs ≡ [] =
          ap (on_rows layout p) (got.after some) ∙ gets_none after p j le held (ne_eqb n after (λ e. apart (sym e ∙ is))) (rows_at epoch (c.prepared after)) in
          second_alone (λ r. nat_eq (partition_of layout.partitions r.key) p) xs ys zs both none
          ∙ ap (on_rows layout p) (got.first some apart)
          ∙ gets_all first p j le held (eq-eqb n first is) (rows_at epoch (c.prepared first))
          ∙ ap (λ (m : ℕ). on_rows layout p (rows_at epoch (c.prepared m))) (sym is)

      pub same_rows : on_rows layout p zs ≡ on_rows layout p (rows_at epoch (c.prepared n))
      same_rows =
          ⊎_elim by_first
          (λ is. elim (nat_eq after first) as (λ b. nat_eq after first ≡ b → on_rows layout p zs ≡ on_rows layout p (rows_at epoch (c.prepared n))) [
            | true ↦ λ t. by_first (is ∙ sym (eqb-true after first t))
            | false ↦ λ f. by_second is (eqb-false after first f)
          ] refl)
          (holder_is p j le held)

-- ---- the rows keep the node's rules

each_all : (s : Setting) (n : ℕ) (before xs : List Prepared) → EachBehind (IsNextPrepared s n) before xs → AllByRecursion (λ e. AllByRecursion (IsNodeRow s n) e.rows) xs
each_all s n before [] each = tt
each_all s n before (x ∷ xs) each = (each.0.rows, each_all s n (before ++ x ∷ []) xs each.1)

rows_all : (s : Setting) (n epoch : ℕ) (xs : List Prepared) → AllByRecursion (λ e. AllByRecursion (IsNodeRow s n) e.rows) xs → AllByRecursion (IsNodeRow s n) (rows_at epoch xs)
rows_all s n epoch [] each = tt
rows_all s n epoch (x ∷ xs) each =
    let those : List Prepared = filter (λ (y : Prepared). nat_eq y.epoch epoch) xs in
    elim (nat_eq x.epoch epoch) as (λ b. AllByRecursion (IsNodeRow s n) (flat_map (λ (y : Prepared). y.rows) (cond b (x ∷ those) those))) [
      | true ↦ all_append (IsNodeRow s n) x.rows (flat_map (λ (y : Prepared). y.rows) those) each.0 (rows_all s n epoch xs each.1)
      | false ↦ rows_all s n epoch xs each.1
    ]

pub rows_of_source : (s : Setting) (n epoch : ℕ) (xs : List Prepared) → EachBehind (IsNextPrepared s n) [] xs → AllByRecursion (IsNodeRow s n) (rows_at epoch xs)
rows_of_source s n epoch xs each = rows_all s n epoch xs (each_all s n [] xs each)

and_left : (a b : Bool) → a && b ≡ true → a ≡ true
and_left true b e = refl
and_left false b e = let no : false ≡ true = e in cc

module _ (s : Setting) (node : ℕ) (less : node < s.entry.layout.nodes) (around : s.entry.layout.copies < s.entry.layout.nodes) where
  own_row : (from m : ℕ) (r : Row) → gets s.entry.layout node from r.key ≡ true → IsNodeRow s m r → IsNodeRow s node r
  own_row from m r got is =
      let p : ℕ = partition_of s.entry.layout.partitions r.key in
      let j : ℕ = nodes_behind s.entry.layout p node in
      let le : j ≤ s.entry.layout.copies = leb-true j s.entry.layout.copies (and_left (nat_le j s.entry.layout.copies) (holder_behind s.entry.layout p j == from) got) in
      record { held = (j, le, sym (behind_is s.entry.layout node less around p).1); table = is.table }

  pub own_rows : (from m : ℕ) (rows : List Row) → AllByRecursion (IsNodeRow s m) rows → AllByRecursion (IsNodeRow s node) (filter (λ x. gets s.entry.layout node from x.key) rows)
  own_rows from m [] each = tt
  own_rows from m (r ∷ rs) each =
      let those : List Row = filter (λ x. gets s.entry.layout node from x.key) rs in
      elim (gets s.entry.layout node from r.key) as (λ b. gets s.entry.layout node from r.key ≡ b → AllByRecursion (IsNodeRow s node) (cond b (r ∷ those) those)) [
        | true ↦ λ t. (own_row from m r t each.0, own_rows from m rs each.1)
        | false ↦ λ f. own_rows from m rs each.1
      ] refl
