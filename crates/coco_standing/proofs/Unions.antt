-- Settled shards hold one map together.
use Rattle.std.proofs.Common.{◌≡◌, ℕ, zero, suc, ◌%◌, Bool, true, false, cond, ◌||◌, List, [], ◌∷◌, length, Option, None, Some, refl, sym, ap, ◌∙◌}
use Rattle.std.specs.FinMap.{get, empty, keys, get-empty, contains_key-keys}
use Rattle.std.specs.List.{list_any, flat_map}
use Rattle.std.specs.Option.{is_some, unwrap_or}
use Rattle.std.proofs.lemmas.List.Folds.{list_any-append}
use Rattle.std.proofs.lemmas.Bool.{or_parts}
use Rattle.coco_types.specs.RowKey.{RowKey, key_cmp}
use Rattle.coco_types.specs.declared.value.Value.{Value}
use Rattle.coco_types.proofs.Keys.{is_key, one_key}
use Rattle.coco_ast.specs.Keyed.{Rows, value_at, write_at}
use Rattle.coco_ast.proofs.Writing.{value_written}
use Rattle.coco_shard.specs.RowState.{RowState, ShardState, resting}
use Rattle.coco_tail.specs.Shards.{shard_at, stable_in}
use Rattle.coco_standing.specs.Laws.{SettledHold}

-- ---- a map of values at some keys

rows_at : (RowKey → Option Value) → List RowKey → Rows
rows_at f [] = empty
rows_at f (k ∷ ks) = write_at (rows_at f ks) k (f k)

value_of_rows : (f : RowKey → Option Value) (ks : List RowKey) (q : RowKey) → value_at (rows_at f ks) q ≡ cond (list_any (is_key q) ks) (f q) None
unfolding rows_at
value_of_rows f [] q = get-empty key_cmp q
value_of_rows f (k ∷ ks) q = value_written (rows_at f ks) k (f k) q ∙ ap (cond (is_key q k) (f k)) (value_of_rows f ks q) ∙
    elim (is_key q k) as (λ b. is_key q k ≡ b → cond b (f k) (cond (list_any (is_key q) ks) (f q) None) ≡ cond (b || list_any (is_key q) ks) (f q) None) [
      | true ↦ λ t. ap f (sym (one_key q k t))
      | false ↦ λ _. refl
    ] refl

-- ---- keys without a row

no_row : (o : Option RowState) → is_some o ≡ false → o ≡ None
no_row None h = refl
no_row (Some r) h = absurd (let two : true ≡ false = h in cc)

-- a key that no shard has is one that this shard hasn't
none_in : (shards : List ShardState) (p : ℕ) (k : RowKey) → list_any (is_key k) (flat_map keys shards) ≡ false → get (shard_at shards p) k ≡ None
none_in [] p k none = get-empty key_cmp k
none_in (s ∷ ss) zero k none = no_row (get s k) (contains_key-keys s k ∙ (or_parts (list_any (is_key k) (keys s)) (list_any (is_key k) (flat_map keys ss)) (sym (list_any-append (is_key k) (keys s) (flat_map keys ss)) ∙ none)).0)
none_in (s ∷ ss) (suc p) k none = none_in ss p k (or_parts (list_any (is_key k) (keys s)) (list_any (is_key k) (flat_map keys ss)) (sym (list_any-append (is_key k) (keys s) (flat_map keys ss)) ∙ none)).1

-- ---- all shards

pub settled_hold : SettledHold
settled_hold shards of settled = (
  rows_at (stable_in shards) (flat_map keys shards),
  record {
    partitions = of;
    settled = settled;
    values = λ k. sym (value_of_rows (stable_in shards) (flat_map keys shards) k ∙
        elim (list_any (is_key k) (flat_map keys shards)) as (λ b. list_any (is_key k) (flat_map keys shards) ≡ b → cond b (stable_in shards k) None ≡ stable_in shards k) [
          | true ↦ λ _. refl
          | false ↦ λ f. sym (ap (λ (o : Option RowState). (unwrap_or o (resting None)).stable) (none_in shards (k.row % length shards) k f))
        ] refl);
  },
)
