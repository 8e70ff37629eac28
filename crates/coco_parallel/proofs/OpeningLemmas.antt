-- Shards at rest hold a map: the one of all their stable values.
use Rattle.std.proofs.Common.{◌≡◌, ℕ, zero, suc, ◌%◌, Bool, true, false, cond, List, [], ◌∷◌, ◌++◌, map, length, Option, None, Some, refl, sym, ap, ◌∙◌, arith}
use Rattle.std.specs.Prelude.{pos}
use Rattle.std.specs.FinMap.{entries, find, from_entries, get, get-empty, get-entries, get-from_entries}
use Rattle.std.specs.Option.{is_some, option_map, option_or, unwrap_or}
use Rattle.std.specs.Ordering.{eq_by_cmp}
use Rattle.coco_types.specs.RowKey.{RowKey, key_cmp}
use Rattle.coco_types.proofs.Keys.{keys_total}
use Rattle.coco_types.specs.declared.value.Value.{Value}
use Rattle.coco_types.specs.declared.value.Value.TheVariants.{Int}
use Rattle.coco_ast.specs.Keyed.{Rows}
use Rattle.coco_tail.specs.Shards.{AreOfPartitions, AreSettled, HoldMap, shard_at}
use Rattle.coco_shard.specs.RowState.{RowState, ShardState, resting, stable_at}

-- ---- entries of several maps

find_append : {X : Type 0} (k : RowKey) (es fs : List (RowKey × X)) → find key_cmp k (es ++ fs) ≡ option_or (find key_cmp k es) (find key_cmp k fs)
find_append k [] fs = refl
find_append k (e ∷ es) fs = by_test (eq_by_cmp key_cmp k e.0) (find_append k es fs)
  where
    by_test : (b : Bool) → find key_cmp k (es ++ fs) ≡ option_or (find key_cmp k es) (find key_cmp k fs) → cond b (Some e.1) (find key_cmp k (es ++ fs)) ≡ option_or (cond b (Some e.1) (find key_cmp k es)) (find key_cmp k fs)
    by_test true more = refl
    by_test false more = more

find_map : {X Y : Type 0} (f : X → Y) (k : RowKey) (es : List (RowKey × X)) → find key_cmp k (map (λ (e : RowKey × X). (e.0, f e.1)) es) ≡ option_map f (find key_cmp k es)
find_map f k [] = refl
find_map {X} f k (e ∷ es) = by_test (eq_by_cmp key_cmp k e.0) (find_map f k es)
  where
    by_test : (b : Bool) → find key_cmp k (map (λ (d : RowKey × X). (d.0, f d.1)) es) ≡ option_map f (find key_cmp k es) → cond b (Some (f e.1)) (find key_cmp k (map (λ (d : RowKey × X). (d.0, f d.1)) es)) ≡ option_map f (cond b (Some e.1) (find key_cmp k es))
    by_test true more = refl
    by_test false more = more

abbrev rows_of : List ShardState → List (RowKey × RowState)
rows_of [] = []
rows_of (s ∷ ss) = entries s ++ rows_of ss

or_none : {X : Type 0} (o : Option X) → option_or o None ≡ o
or_none None = refl
or_none (Some x) = refl

module _ (k : RowKey) where
  next : (s : ShardState) (ss : List ShardState) → find key_cmp k (rows_of (s ∷ ss)) ≡ option_or (get s k) (find key_cmp k (rows_of ss))
  next s ss = find_append k (entries s) (rows_of ss) ∙ ap (λ (o : Option RowState). option_or o (find key_cmp k (rows_of ss))) (sym (get-entries s k))

  none_found : (shards : List ShardState) → ((p : ℕ) → get (shard_at shards p) k ≡ None) → find key_cmp k (rows_of shards) ≡ None
  none_found [] none = refl
  none_found (s ∷ ss) none = next s ss ∙ ap (λ (o : Option RowState). option_or o (find key_cmp k (rows_of ss))) (none 0) ∙ none_found ss (λ p. none (suc p))

  -- a key that no other shard has is found as in this one
  one_found : (shards : List ShardState) (p : ℕ) → ((q : ℕ) → (q ≡ p → ⊥) → get (shard_at shards q) k ≡ None) → find key_cmp k (rows_of shards) ≡ get (shard_at shards p) k
  one_found [] p none = sym (get-empty key_cmp k)
  one_found (s ∷ ss) zero none = next s ss ∙ ap (option_or (get s k)) (none_found ss (λ p. none (suc p) (λ e. omega (arith, e)))) ∙ or_none (get s k)
  one_found (s ∷ ss) (suc p) none =
      next s ss ∙ ap (λ (o : Option RowState). option_or o (find key_cmp k (rows_of ss))) (none 0 (λ e. omega (arith, e))) ∙ one_found ss p (λ q apart. none (suc q) (λ e. apart (omega (arith, e))))

-- ---- the map

abbrev value_of : RowState → Value
value_of row = unwrap_or row.stable (Int (pos 0))

map_of : List ShardState → Rows
map_of shards = from_entries (map (λ (e : RowKey × RowState). (e.0, value_of e.1)) (rows_of shards))

valued : (o : Option Value) → option_map value_of (option_map (λ (v : Value). resting (Some v)) o) ≡ o
valued None = refl
valued (Some v) = refl

module _ (shards : List ShardState) (partitions : AreOfPartitions shards) (settled : AreSettled shards) where
  abbrev of_key : RowKey → ℕ
  of_key k = k.row % length shards

  elsewhere : (k : RowKey) (q : ℕ) (o : Option RowState) → get (shard_at shards q) k ≡ o → (q ≡ of_key k → ⊥) → o ≡ None
  elsewhere k q None is apart = refl
  elsewhere k q (Some row) is apart = absurd (apart (sym (partitions q k (ap is_some is))))

  found : (k : RowKey) → get (map_of shards) k ≡ stable_at (shard_at shards (of_key k)) k
  unfolding map_of
  found k =
      get-from_entries keys_total (map (λ (e : RowKey × RowState). (e.0, value_of e.1)) (rows_of shards)) k
      ∙ find_map value_of k (rows_of shards)
      ∙ ap (option_map value_of) (one_found k shards (of_key k) (λ q apart. elsewhere k q (get (shard_at shards q) k) refl apart) ∙ settled (of_key k) k)
      ∙ valued (stable_at (shard_at shards (of_key k)) k)

  pub hold_some_map : (m : Rows) × HoldMap m shards
  hold_some_map = (map_of shards, record { partitions = partitions; settled = settled; values = λ k. sym (found k) })
