-- The writes of a run, put over its map, make the map that it leaves.
use Rattle.std.proofs.Common.{◌≡◌, Bool, true, false, cond, List, [], ◌∷◌, None, Some, refl, sym, ap, ◌∙◌, subst, Ordering, Less, Equal, Greater, is_eq}
use Rattle.std.specs.Bool.{⊤}
use Rattle.std.specs.List.{AllByRecursion}
use Rattle.std.specs.Ordering.{match_ordering, ordering_reverse}
use Rattle.std.specs.FinMap.{get-insert, get-remove}
use Rattle.coco_types.proofs.KeyMaps.{same_keyed}
use Rattle.coco_types.proofs.Keys.{keys_total, keys_exact, one_key}
use Rattle.coco_types.specs.RowKey.{RowKey, key_cmp}
use Rattle.coco_types.specs.declared.call.Write.{Write}
use Rattle.coco_ast.specs.Keyed.{Rows, value_at, write_at, put_over}
use Rattle.coco_ast.specs.Meaning.{Datum, Access, Reads, Writes, is_key, put_write, writes_after}
use Rattle.coco_ast.proofs.Leading.{rows_by}

-- ---- one write

-- what a map has behind a write
pub value_written : (m : Rows) (k : RowKey) (v : Datum) (q : RowKey) → value_at (write_at m k v) q ≡ cond (is_key q k) v (value_at m q)
value_written m k None q = get-remove keys_total m k q
value_written m k (Some v) q = get-insert keys_total m k v q

twice : (b : Bool) (v w o : Datum) → cond b v (cond b w o) ≡ cond b v o
twice true v w o = refl
twice false v w o = refl

-- of two writes of a key the later stays
written_again : (m : Rows) (k : RowKey) (v w : Datum) → write_at (write_at m k w) k v ≡ write_at m k v
written_again m k v w = same_keyed _ _ (λ q.
    value_written (write_at m k w) k v q ∙ ap (cond (is_key q k) v) (value_written m k w q) ∙ twice (is_key q k) v w (value_at m q) ∙ sym (value_written m k v q))

either : (a b : Bool) (v w o : Datum) → (a ≡ true → b ≡ true → ⊥) → cond a v (cond b w o) ≡ cond b w (cond a v o)
either true true v w o apart = absurd (apart refl refl)
either true false v w o apart = refl
either false b v w o apart = refl

is_less : (o : Ordering) → o ≡ Less → is_eq o ≡ true → ⊥
is_less Less l e = let h : false ≡ true = e in cc
is_less Equal l e = let h : Equal ≡ Less = l in cc
is_less Greater l e = let h : Greater ≡ Less = l in cc

-- writes of two keys, in either order
written_apart : (m : Rows) (k j : RowKey) (v w : Datum) → key_cmp k j ≡ Less → write_at (write_at m j w) k v ≡ write_at (write_at m k v) j w
written_apart m k j v w below = same_keyed _ _ (λ q.
    value_written (write_at m j w) k v q ∙ ap (cond (is_key q k) v) (value_written m j w q)
    ∙ either (is_key q k) (is_key q j) v w (value_at m q)
    (λ at_k at_j. is_less (key_cmp k j) below (ap is_eq (ap (λ (x : RowKey). key_cmp x j) (sym (one_key q k at_k))) ∙ at_j))
    ∙ sym (value_written (write_at m k v) j w q ∙ ap (cond (is_key q j) w) (value_written m k v q)))

-- ---- writes in order

abbrev pub IsBelowAll : RowKey → List Write → Type 0
IsBelowAll k ws = AllByRecursion (λ w. key_cmp k w.key ≡ Less) ws

abbrev pub Ascend : List Write → Type 0
Ascend [] = ⊤
Ascend (w ∷ ws) = IsBelowAll w.key ws × Ascend ws

abbrev write : RowKey → Datum → Write
write k v = record { key = k; value = v }

below_more : (k j : RowKey) (ws : List Write) → key_cmp k j ≡ Less → IsBelowAll j ws → IsBelowAll k ws
below_more k j [] less all = tt
below_more k j (w ∷ ws) less all = (keys_total.trans k j w.key less all.0, below_more k j ws less all.1)

below_put : (j k : RowKey) (v : Datum) (ws : List Write) → key_cmp j k ≡ Less → IsBelowAll j ws → IsBelowAll j (put_write k v ws)
below_put j k v [] less all = (less, tt)
below_put j k v (w ∷ ws) less all =
    elim (key_cmp k w.key) as (λ o. IsBelowAll j (match_ordering o (write k v ∷ w ∷ ws) (write k v ∷ ws) (w ∷ put_write k v ws))) [
      | Less ↦ (less, all)
      | Equal ↦ (less, all.1)
      | Greater ↦ (all.0, below_put j k v ws less all.1)
    ]

turned : (j k : RowKey) → key_cmp k j ≡ Greater → key_cmp j k ≡ Less
turned j k g = keys_total.antisymm j k ∙ ap ordering_reverse g

pub ascend_put : (k : RowKey) (v : Datum) (ws : List Write) → Ascend ws → Ascend (put_write k v ws)
ascend_put k v [] rises = (tt, tt)
ascend_put k v (w ∷ ws) rises =
    elim (key_cmp k w.key) as (λ o. key_cmp k w.key ≡ o → Ascend (match_ordering o (write k v ∷ w ∷ ws) (write k v ∷ ws) (w ∷ put_write k v ws))) [
      | Less ↦ λ is. ((is, below_more k w.key ws is rises.0), rises)
      | Equal ↦ λ is. (subst (λ (c : RowKey). IsBelowAll c ws) (sym (keys_exact k w.key is)) rises.0, rises.1)
      | Greater ↦ λ is. (below_put w.key k v ws (turned w.key k is) rises.0, ascend_put k v ws rises.1)
    ] refl

-- ---- put over a map

-- a write of a key below all others goes before them or behind them
put_over_behind : (m : Rows) (k : RowKey) (v : Datum) (ws : List Write) → IsBelowAll k ws → put_over (write_at m k v) ws ≡ write_at (put_over m ws) k v
put_over_behind m k v [] below = refl
put_over_behind m k v (w ∷ ws) below =
    ap (λ n. put_over n ws) (sym (written_apart m k w.key v w.value below.0)) ∙ put_over_behind (write_at m w.key w.value) k v ws below.1

put_over_again : (m : Rows) (k j : RowKey) (v x : Datum) (ws : List Write) → k ≡ j → IsBelowAll j ws → put_over (write_at m k v) ws ≡ write_at (put_over (write_at m j x) ws) k v
put_over_again m k j v x ws e below =
    subst (λ (c : RowKey). put_over (write_at m c v) ws ≡ write_at (put_over (write_at m j x) ws) c v) (sym e)
    (ap (λ n. put_over n ws) (sym (written_again m j v x)) ∙ put_over_behind (write_at m j x) j v ws below)

pub put_over-put : (m : Rows) (k : RowKey) (v : Datum) (ws : List Write) → Ascend ws → put_over m (put_write k v ws) ≡ write_at (put_over m ws) k v
put_over-put m k v [] rises = refl
put_over-put m k v (w ∷ ws) rises =
    elim (key_cmp k w.key) as (λ o. key_cmp k w.key ≡ o → put_over m (match_ordering o (write k v ∷ w ∷ ws) (write k v ∷ ws) (w ∷ put_write k v ws)) ≡ write_at (put_over m (w ∷ ws)) k v) [
      | Less ↦ λ is. put_over_behind m k v (w ∷ ws) (is, below_more k w.key ws is rises.0)
      | Equal ↦ λ is. put_over_again m k w.key v w.value ws (keys_exact k w.key is) rises.0
      | Greater ↦ λ is. put_over-put (write_at m w.key w.value) k v ws rises.1
    ] refl

pub put_over_writes : (m : Rows) (ws : List Write) (xs : List Access) → Ascend ws → put_over m (writes_after ws xs) ≡ rows_by (put_over m ws) xs
put_over_writes m ws [] rises = refl
put_over_writes m ws (Reads k ∷ xs) rises = put_over_writes m ws xs rises
put_over_writes m ws (Writes k v ∷ xs) rises = put_over_writes m (put_write k v ws) xs (ascend_put k v ws rises) ∙ ap (λ n. rows_by n xs) (put_over-put m k v ws rises)
