-- What a shard's steps outside of `apply` come to.
use Rattle.std.proofs.Common.{◌≡◌, Bool, true, false, cond, List, Option, None, Some, Result, Ok, Err, OnOk, OnErr, refl, sym, ap, ◌∙◌, subst}
use Rattle.std.specs.Option.{option_map, unwrap_or}
use Rattle.std.specs.FinMap.{get, insert, empty, get-empty}
use Rattle.coco_types.specs.RowKey.{RowKey, key_cmp}
use Rattle.coco_types.specs.declared.value.Value.{Value}
use Rattle.coco_rows.specs.declared.Row.{Row}
use Rattle.coco_shard.specs.RowState.{RowState, ShardState, resting, row_at, Holds, IsSettled, loaded}
use Rattle.coco_shard.specs.Kept.{view_of}
use Rattle.coco_types.proofs.Keys.{is_key}
use Rattle.coco_types.proofs.KeyMaps.{get_put, get_put_same, get_taken}

pub row_put_same : (s : ShardState) (k : RowKey) (row : RowState) → row_at (insert s k row) k ≡ row
row_put_same s k row = ap (λ o. unwrap_or o (resting None)) (get_put_same s k row)

-- ---- a load

load_settles : (b : Bool) (v : Value) (o : Option RowState) → o ≡ option_map (λ value. resting (Some value)) (unwrap_or o (resting None)).stable
    → cond b (Some (resting (Some v))) o ≡ option_map (λ value. resting (Some value)) (unwrap_or (cond b (Some (resting (Some v))) o) (resting None)).stable
load_settles true v o h = refl
load_settles false v o h = h

pub put_settles : (s : ShardState) (k : RowKey) (v : Value) → IsSettled s → IsSettled (insert s k (resting (Some v)))
put_settles s k v settled = λ q.
    let P : Option RowState → Type 0 = λ o. o ≡ option_map (λ value. resting (Some value)) (unwrap_or o (resting None)).stable in
    subst P (sym (get_put s k (resting (Some v)) q)) (load_settles (is_key k q) v (get s q) (settled q))

take_settles : (b : Bool) (o : Option RowState) → o ≡ option_map (λ value. resting (Some value)) (unwrap_or o (resting None)).stable
    → cond b None o ≡ option_map (λ value. resting (Some value)) (unwrap_or (cond b None o) (resting None)).stable
take_settles true o h = refl
take_settles false o h = h

pub loads_settle : (s : ShardState) (k : RowKey) (value : Option Value) → IsSettled s → IsSettled (loaded s k value)
loads_settle s k (Some v) settled = put_settles s k v settled
loads_settle s k None settled = λ q.
    let P : Option RowState → Type 0 = λ o. o ≡ option_map (λ value. resting (Some value)) (unwrap_or o (resting None)).stable in
    subst P (sym (get_taken s k q)) (take_settles (is_key k q) (get s q) (settled q))

pub loaded_settled : {T E : Type 0} (r : Result T E) (es fs : List (RowKey × Row)) (k : RowKey) (value : Option Value) → IsSettled (view_of es)
    → OnOk r (view_of fs ≡ loaded (view_of es) k value) → OnErr r (fs ≡ es) → IsSettled (view_of fs)
loaded_settled (Ok x) es fs k value settled ok err = subst IsSettled (sym ok) (loads_settle (view_of es) k value settled)
loaded_settled (Err e) es fs k value settled ok err = subst IsSettled (sym (ap view_of err)) settled

-- ---- one row, as the tail's steps find it

pub fresh_row : (s : ShardState) (k : RowKey) → s ≡ empty → row_at s k ≡ resting None
fresh_row s k is = ap (λ t. row_at t k) is ∙ ap (λ o. unwrap_or o (resting None)) (get-empty key_cmp k)

pub put_row : (s t : ShardState) (k : RowKey) (row : RowState) → t ≡ insert s k row → row_at t k ≡ row
put_row s t k row is = ap (λ u. row_at u k) is ∙ row_put_same s k row

-- a shard that holds an opening map has no touched row
pub holds_settled : (opening : RowKey → Option Value) (s : ShardState) → Holds opening s → IsSettled s
holds_settled opening s holds = λ k. holds k ∙ ap (option_map (λ value. resting (Some value))) (sym (ap (λ o. (unwrap_or o (resting None)).stable) (holds k) ∙ opened (opening k)))
  where
    opened : (o : Option Value) → (unwrap_or (option_map (λ value. resting (Some value)) o) (resting None)).stable ≡ o
    opened None = refl
    opened (Some v) = refl

pub empty_settled : (s : ShardState) → s ≡ empty → IsSettled s
empty_settled s is = subst IsSettled (sym is) (holds_settled (λ _. None) empty (λ k. get-empty key_cmp k))
