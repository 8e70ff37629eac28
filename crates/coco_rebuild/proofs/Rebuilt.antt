-- The entry that is made of what the two sources have for an epoch is the node's.
use Rattle.std.proofs.Common.{◌≡◌, ◌≢◌, ⊎_elim, ℕ, ◌+◌, ◌-◌, ◌*◌, ◌%◌, ◌<◌, ◌≤◌, true, false, nat_eq, List, [], filter, refl, sym, ap, subst, ◌∙◌, arith}
use Rattle.std.specs.List.{AllByRecursion}
use Rattle.std.proofs.lemmas.Bool.{cases_lt, eqb-false, eqb-true}
use Rattle.std.proofs.lemmas.Nat.{mod-mul-add, mod_below}
use Rattle.coco_host.specs.Files.{Files}
use Rattle.coco_entry.specs.declared.layout.Layout.{Layout}
use Rattle.coco_entry.specs.declared.prepared.Prepared.{Prepared}
use Rattle.coco_entry.specs.declared.prepared.Row.{Row}
use Rattle.coco_entry.specs.Rows.{IsPrepared}
use Rattle.coco_store.specs.Contents.{Contents, HoldsNode, file_of}
use Rattle.coco_store.specs.Rules.{IsNodeRow}
use Rattle.coco_rebuild.specs.Rebuilding.{IsHeldAlone, IsRebuilt, rows_at}
use Rattle.coco_rebuild.specs.Sources.{AreGot, AreOthers, Interleaves, gets, node_after, node_first}
use Rattle.coco_rebuild.proofs.Getting.{own_rows, rows_of_source, same_rows}
use Rattle.coco_rebuild.proofs.Interleaving.{all_of_both}

small_mod : (n w : ℕ) → n < w → n % w ≡ n
small_mod n w less = let same : n ≡ 0 * w + n = omega arith in ap (λ (x : ℕ). x % w) same ∙ mod-mul-add 0 w n less

-- with copies the two sources are other nodes
pub after_other : (w n : ℕ) → 1 < w → n < w → (n + 1) % w ≢ n
after_other w n two less same =
    ⊎_elim (λ (below : n + 1 < w). (let is : (n + 1) % w ≡ n + 1 = small_mod (n + 1) w below in omega (arith, is, same)))
    (λ (le : w ≤ n + 1). (let last : n + 1 ≡ w = omega (arith, le, less) in
    let none : (n + 1) % w ≡ 0 = ap (λ (x : ℕ). x % w) (omega (arith, last)) ∙ mod-mul-add 1 w 0 (omega (arith, two)) in
    omega (arith, none, same, last, two)))
    (cases_lt (n + 1) w)

pub first_other : (w c n : ℕ) → 0 < c → c < w → n < w → (n + w - c) % w ≢ n
first_other w c n some around less same =
    ⊎_elim (λ (below : n < c). (let is : (n + w - c) % w ≡ n + w - c = small_mod (n + w - c) w (omega (arith, below, around)) in omega (arith, is, same, around)))
    (λ (le : c ≤ n). (let round : n + w - c ≡ 1 * w + (n - c) = omega (arith, le) in
    let is : (n + w - c) % w ≡ n - c = ap (λ (x : ℕ). x % w) round ∙ mod-mul-add 1 w (n - c) (omega (arith, less)) in
    omega (arith, is, same, le, some)))
    (cases_lt n c)

module _ (node : ℕ) (c : Contents) (less : node < c.setting.entry.layout.nodes) (around : c.setting.entry.layout.copies < c.setting.entry.layout.nodes)
    (others : (q : ℕ) → ¬ (IsHeldAlone c.setting.entry.layout node q)) (files : Files)
    (nodes : (n : ℕ) → n < c.setting.entry.layout.nodes → n ≢ node → HoldsNode c.setting c.commits n (c.prepared n) (files (file_of c.setting n))) where
  abbrev layout : Layout
  layout = c.setting.entry.layout

  -- the rows of a list that were taken of another node's file
  taken : (from epoch : ℕ) (rows : List Row) → from < layout.nodes → from ≢ node → rows ≡ filter (λ r. gets layout node from r.key) (rows_at epoch (c.prepared from)) → AllByRecursion (IsNodeRow c.setting node) rows
  taken from epoch rows within other are =
      subst (AllByRecursion (IsNodeRow c.setting node)) (sym are)
      (own_rows c.setting node less around from from (rows_at epoch (c.prepared from)) (rows_of_source c.setting from epoch (c.prepared from) (nodes from within other).each))

  none_all : (rows : List Row) → rows ≡ [] → AllByRecursion (IsNodeRow c.setting node) rows
  none_all rows none = subst (AllByRecursion (IsNodeRow c.setting node)) (sym none) tt

  pub is_rebuilt : (entry : Prepared) (xs ys : List Row) → IsPrepared entry → AreGot layout node c entry.epoch xs ys → Interleaves xs ys entry.rows → IsRebuilt node c entry
  is_rebuilt entry xs ys is got both =
      let some_node : 0 < layout.nodes = omega (arith, less) in
      let after : ℕ = node_after layout node in
      let first : ℕ = node_first layout node in
      record {
        is = is;
        rows = elim (nat_eq layout.copies 0) as (λ b. nat_eq layout.copies 0 ≡ b → AllByRecursion (IsNodeRow c.setting node) entry.rows) [
          | true ↦ λ t. (let no = got.none (eqb-true layout.copies 0 t) in all_of_both (IsNodeRow c.setting node) xs ys entry.rows both (none_all xs no.0) (none_all ys no.1))
          | false ↦ λ f. (let other = eqb-false layout.copies 0 f in
              let some : 0 < layout.copies = omega (arith, other) in
              let of_first : AllByRecursion (IsNodeRow c.setting node) xs =
              taken after entry.epoch xs (mod_below (node + 1) layout.nodes some_node) (after_other layout.nodes node (omega (arith, some, around)) less) (got.after some) in
              let of_second : AllByRecursion (IsNodeRow c.setting node) ys = elim (nat_eq after first) as (λ b. nat_eq after first ≡ b → AllByRecursion (IsNodeRow c.setting node) ys) [
                | true ↦ λ t. none_all ys (got.one (eqb-true after first t))
                | false ↦ λ g. taken first entry.epoch ys (mod_below (node + layout.nodes - layout.copies) layout.nodes some_node) (first_other layout.nodes layout.copies node some around less) (got.first some (eqb-false after first g))
              ] refl in
              all_of_both (IsNodeRow c.setting node) xs ys entry.rows both of_first of_second)
        ] refl;
        same = λ p j within le held. same_rows layout node less around c entry.epoch xs ys entry.rows others got both p j within le held;
      }

-- of what was read of the other nodes' files
pub rebuilt_of : (layout : Layout) (node : ℕ) (epochs : List ℕ) (files : Files) (c : Contents) → AreOthers layout node epochs files c → node < layout.nodes → layout.copies < layout.nodes → (entry : Prepared) (xs ys : List Row)
    → IsPrepared entry → AreGot layout node c entry.epoch xs ys → Interleaves xs ys entry.rows → IsRebuilt node c entry
rebuilt_of of_all node epochs files c others less around entry xs ys is got both =
    subst (λ (l : Layout). node < l.nodes → l.copies < l.nodes → ((p : ℕ) → ¬ (IsHeldAlone l node p)) → AreGot l node c entry.epoch xs ys → IsRebuilt node c entry) others.layout_is
    (λ here there held of. is_rebuilt node c here there held files others.nodes entry xs ys is of both) less around others.held got
