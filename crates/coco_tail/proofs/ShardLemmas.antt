-- Shards behind a change of one row, and at an epoch's end.
use Rattle.std.proofs.Common.{◌≡◌, ℕ, ◌<◌, ◌≤◌, ◌%◌, Bool, true, false, cond, nat_eq, nat_lt, List, length, get_or, slice_set, Option, None, Some, refl, sym, ap, ◌∙◌, subst, arith}
use Rattle.std.specs.FinMap.{get, insert, empty, get-empty}
use Rattle.std.specs.Option.{option_map, unwrap_or}
use Rattle.std.proofs.lemmas.Bool.{eqb-true, eq-eqb, ltb-true, ltb-false}
use Rattle.std.proofs.lemmas.List.{get_or_default, get_or-set_same, get_or-set_other, same_lists}
use Rattle.std.proofs.lemmas.Option.{slice_get_past, unwrap_or-slice_get}
use Rattle.std.proofs.Math.ListN.{length-set}
use Rattle.coco_types.specs.RowKey.{RowKey, key_cmp}
use Rattle.coco_types.specs.declared.value.Value.{Value}
use Rattle.coco_types.proofs.Keys.{is_key, key_swap, one_key}
use Rattle.coco_types.proofs.KeyMaps.{get_put, same_keyed}
use Rattle.coco_ast.specs.Keyed.{Rows, value_at, write_at}
use Rattle.coco_ast.proofs.Writing.{value_written}
use Rattle.coco_shard.specs.RowState.{RowState, ShardState, Holds, IsOfPartition, newest_at, resting, row_at, stable_at}
use Rattle.coco_shard.proofs.Partitions.{put_of, promoted_of, reverted_of}
use Rattle.coco_tail.specs.Shards.{AreOfPartitions, AreQuietAfter, HaveNewest, HaveStable, HoldMap, KeepStable, SettleOn, newest_in, row_in, shard_at, shard_of, stable_in, with_row_in}

two_sides : true ≡ false → ⊥
two_sides h = cc

-- ---- one shard among all

at_place : (shards : List ShardState) (p : ℕ) → shard_at shards p ≡ get_or shards p empty
at_place shards p = unwrap_or-slice_get shards p empty

-- as many shards with the same row at each key are the same
pub same_shards : (xs ys : List ShardState) → length xs ≡ length ys → ((p : ℕ) (k : RowKey) → get (shard_at xs p) k ≡ get (shard_at ys p) k) → xs ≡ ys
same_shards xs ys count same = same_lists xs ys count (λ p d lt. sym (read xs p d lt) ∙ same_keyed (shard_at xs p) (shard_at ys p) (same p) ∙ read ys p d (subst (λ (n : ℕ). p < n) count lt))
  where
    read : (shards : List ShardState) (p : ℕ) (d : ShardState) → p < length shards → shard_at shards p ≡ get_or shards p d
    read shards p d lt = at_place shards p ∙ get_or_default shards p empty d lt

pub at_set : (shards : List ShardState) (i p : ℕ) (s : ShardState) → i < length shards → shard_at (slice_set shards i s) p ≡ cond (nat_eq i p) s (shard_at shards p)
at_set shards i p s lt = elim (nat_eq i p) as (λ b. nat_eq i p ≡ b → shard_at (slice_set shards i s) p ≡ cond b s (shard_at shards p)) [
  | true ↦ λ t. at_place (slice_set shards i s) p ∙ ap (λ (q : ℕ). get_or (slice_set shards i s) q empty) (sym (eqb-true i p t)) ∙ get_or-set_same shards i s empty lt
  | false ↦ λ f. at_place (slice_set shards i s) p ∙ get_or-set_other shards i p s empty (λ e. two_sides (sym (eq-eqb i p (sym e)) ∙ f)) ∙ sym (at_place shards p)
] refl

pub length_set : (shards : List ShardState) (i : ℕ) (s : ShardState) → length (slice_set shards i s) ≡ length shards
length_set shards i s = length-set shards i s

row_put : (s : ShardState) (key : RowKey) (row : RowState) (k : RowKey) → row_at (insert s key row) k ≡ cond (is_key key k) row (row_at s k)
row_put s key row k = ap (λ o. unwrap_or o (resting None)) (get_put s key row k) ∙ choose (is_key key k)
  where
    choose : (b : Bool) → unwrap_or (cond b (Some row) (get s k)) (resting None) ≡ cond b row (row_at s k)
    choose true = refl
    choose false = refl

-- ---- a row is set

module _ (shards : List ShardState) (key : RowKey) (row : RowState) (some : 0 < length shards) where
  within : key.row % length shards < length shards
  within = omega arith

  count_set : length (with_row_in shards key row) ≡ length shards
  count_set = length_set shards (key.row % length shards) (insert (shard_of shards key) key row)

  -- what a shard has at a key afterwards
  row_at_set : (p : ℕ) (k : RowKey) → row_at (shard_at (with_row_in shards key row) p) k ≡ cond (nat_eq (key.row % length shards) p) (cond (is_key key k) row (row_at (shard_of shards key) k)) (row_at (shard_at shards p) k)
  row_at_set p k =
      ap (λ (s : ShardState). row_at s k) (at_set shards (key.row % length shards) p (insert (shard_of shards key) key row) within)
      ∙ choose (nat_eq (key.row % length shards) p)
    where
      choose : (b : Bool) → row_at (cond b (insert (shard_of shards key) key row) (shard_at shards p)) k ≡ cond b (cond (is_key key k) row (row_at (shard_of shards key) k)) (row_at (shard_at shards p) k)
      choose true = row_put (shard_of shards key) key row k
      choose false = refl

  pub row_in_set : (k : RowKey) → row_in (with_row_in shards key row) k ≡ cond (is_key key k) row (row_in shards k)
  row_in_set k =
      ap (λ (n : ℕ). row_at (shard_at (with_row_in shards key row) (k.row % n)) k) count_set
      ∙ row_at_set (k.row % length shards) k
      ∙ elim (nat_eq (key.row % length shards) (k.row % length shards)) as (λ b. nat_eq (key.row % length shards) (k.row % length shards) ≡ b → cond b (cond (is_key key k) row (row_at (shard_of shards key) k)) (row_in shards k) ≡ cond (is_key key k) row (row_in shards k)) [
        | true ↦ λ t. ap (λ (p : ℕ). cond (is_key key k) row (row_at (shard_at shards p) k)) (eqb-true (key.row % length shards) (k.row % length shards) t)
        | false ↦ λ f. elim (is_key key k) as (λ b. is_key key k ≡ b → row_in shards k ≡ cond b row (row_in shards k)) [
          | true ↦ λ t. absurd (two_sides (sym (eq-eqb (key.row % length shards) (k.row % length shards) (ap (λ (z : RowKey). z.row % length shards) (one_key key k t))) ∙ f))
          | false ↦ λ _. refl
        ] refl
      ] refl

  -- no shard has another stable value, where the row has the key's
  pub stable_set : row.stable ≡ stable_in shards key → (p : ℕ) (k : RowKey) → stable_at (shard_at (with_row_in shards key row) p) k ≡ stable_at (shard_at shards p) k
  stable_set same p k =
      ap (λ (r : RowState). r.stable) (row_at_set p k)
      ∙ elim (nat_eq (key.row % length shards) p) as (λ b. nat_eq (key.row % length shards) p ≡ b → (cond b (cond (is_key key k) row (row_at (shard_of shards key) k)) (row_at (shard_at shards p) k)).stable ≡ stable_at (shard_at shards p) k) [
        | true ↦ λ t. elim (is_key key k) as (λ b. is_key key k ≡ b → (cond b row (row_at (shard_of shards key) k)).stable ≡ stable_at (shard_at shards p) k) [
          | true ↦ λ s. same ∙ ap (λ (q : ℕ). stable_at (shard_at shards q) key) (eqb-true (key.row % length shards) p t) ∙ ap (stable_at (shard_at shards p)) (one_key key k s)
          | false ↦ λ _. ap (λ (q : ℕ). stable_at (shard_at shards q) k) (eqb-true (key.row % length shards) p t)
        ] refl
        | false ↦ λ _. refl
      ] refl

  pub partitions_set : AreOfPartitions shards → AreOfPartitions (with_row_in shards key row)
  partitions_set of p = subst (λ (n : ℕ). IsOfPartition n p (shard_at (with_row_in shards key row) p)) (sym count_set)
      (subst (IsOfPartition (length shards) p) (sym (at_set shards (key.row % length shards) p (insert (shard_of shards key) key row) within))
      (elim (nat_eq (key.row % length shards) p) as (λ b. nat_eq (key.row % length shards) p ≡ b → IsOfPartition (length shards) p (cond b (insert (shard_of shards key) key row) (shard_at shards p))) [
        | true ↦ λ t. subst (λ (q : ℕ). IsOfPartition (length shards) q (insert (shard_of shards key) key row)) (eqb-true (key.row % length shards) p t)
            (put_of (length shards) (key.row % length shards) (shard_of shards key) key row refl (of (key.row % length shards)))
        | false ↦ λ _. of p
      ] refl))

  pub kept_set : row.stable ≡ stable_in shards key → AreOfPartitions shards → KeepStable shards (with_row_in shards key row)
  kept_set same of = record { count = count_set; stable = stable_set same; partitions = partitions_set of }

  pub quiet_set : (time : ℕ) → row.mark ≡ None → row.rts ≤ time → AreQuietAfter time shards → AreQuietAfter time (with_row_in shards key row)
  quiet_set time unmarked until quiet = record {
    unmarked = λ k. ap (λ (r : RowState). r.mark) (row_in_set k) ∙ either_mark (is_key key k) k;
    until = λ k. subst (λ (r : RowState). r.rts ≤ time) (sym (row_in_set k)) (either_time (is_key key k) k);
  }
    where
      either_mark : (b : Bool) (k : RowKey) → (cond b row (row_in shards k)).mark ≡ None
      either_mark true k = unmarked
      either_mark false k = quiet.unmarked k

      either_time : (b : Bool) (k : RowKey) → (cond b row (row_in shards k)).rts ≤ time
      either_time true k = until
      either_time false k = quiet.until k

  -- the map with the row's newest value has the newest values
  pub newest_set : (m : Rows) → HaveNewest m shards → HaveNewest (write_at m key row.newest) (with_row_in shards key row)
  newest_set m newest k =
      ap (λ (r : RowState). r.newest) (row_in_set k) ∙ choose (is_key key k) ∙ sym (value_written m key row.newest k ∙ ap (λ b. cond b row.newest (value_at m k)) (key_swap k key))
    where
      choose : (b : Bool) → (cond b row (row_in shards k)).newest ≡ cond b row.newest (value_at m k)
      choose true = refl
      choose false = newest k

  -- a row with the key's newest value leaves all newest values
  pub newest_stay : row.newest ≡ newest_in shards key → (m : Rows) → HaveNewest m shards → HaveNewest m (with_row_in shards key row)
  newest_stay same m newest k =
      ap (λ (r : RowState). r.newest) (row_in_set k)
      ∙ elim (is_key key k) as (λ b. is_key key k ≡ b → (cond b row (row_in shards k)).newest ≡ value_at m k) [
        | true ↦ λ t. same ∙ newest key ∙ ap (value_at m) (one_key key k t)
        | false ↦ λ _. newest k
      ] refl

-- ---- from one moment to another

pub keeps_itself : (shards : List ShardState) → AreOfPartitions shards → KeepStable shards shards
keeps_itself shards of = record { count = refl; stable = λ p k. refl; partitions = of }

pub keeps_on : (first mid last : List ShardState) → KeepStable first mid → KeepStable mid last → KeepStable first last
keeps_on first mid last a b = record {
  count = b.count ∙ a.count;
  stable = λ p k. b.stable p k ∙ a.stable p k;
  partitions = b.partitions;
}

-- ---- settled shards

value_held : (opening : RowKey → Option Value) (s : ShardState) → Holds opening s → (k : RowKey) → row_at s k ≡ resting (opening k)
value_held opening s holds k = ap (λ (o : Option RowState). unwrap_or o (resting None)) (holds k) ∙ choose (opening k)
  where
    choose : (o : Option Value) → unwrap_or (option_map (λ value. resting (Some value)) o) (resting None) ≡ resting o
    choose None = refl
    choose (Some v) = refl

-- ---- an epoch's end

-- shards that settle on a version hold the map of it
module _ (version : ShardState → RowKey → Option Value) (stays : (count p : ℕ) (s t : ShardState) → Holds (version s) t → IsOfPartition count p s → IsOfPartition count p t) where
  held_map : (m : Rows) (old new : List ShardState) → SettleOn version old new → AreOfPartitions old → ((k : RowKey) → version (shard_of old k) k ≡ value_at m k) → HoldMap m new
  held_map m old new settle of values = record {
    partitions = λ p. subst (λ (n : ℕ). IsOfPartition n p (shard_at new p)) (sym settle.count) (stays (length old) p (shard_at old p) (shard_at new p) (settle.each p) (of p));
    settled = λ p k. settle.each p k ∙ ap (option_map (λ value. resting (Some value))) (sym (told p k));
    values = λ k. ap (λ (n : ℕ). stable_at (shard_at new (k.row % n)) k) settle.count ∙ told (k.row % length old) k ∙ values k;
  }
    where
      told : (p : ℕ) (k : RowKey) → stable_at (shard_at new p) k ≡ version (shard_at old p) k
      told p k = ap (λ (r : RowState). r.stable) (value_held (version (shard_at old p)) (shard_at new p) (settle.each p) k)

pub promoted_map : (m : Rows) (old new : List ShardState) → SettleOn newest_at old new → AreOfPartitions old → HaveNewest m old → HoldMap m new
promoted_map = held_map newest_at promoted_of

pub reverted_map : (m : Rows) (old new : List ShardState) → SettleOn stable_at old new → AreOfPartitions old → HaveStable m old → HoldMap m new
reverted_map = held_map stable_at reverted_of

-- ---- one shard after another

module _ (field : RowState → Option Value) (bare : field (resting None) ≡ None) where
  -- nothing is held by a shard that isn't there
  empty_held : Holds (λ k. field (row_at empty k)) empty
  empty_held k = get-empty key_cmp k ∙ ap (option_map (λ value. resting (Some value))) (sym (ap (λ (o : Option RowState). field (unwrap_or o (resting None))) (get-empty key_cmp k) ∙ bare))

  missing : (shards : List ShardState) (p : ℕ) → length shards ≤ p → shard_at shards p ≡ empty
  missing shards p le = ap (λ (o : Option ShardState). unwrap_or o empty) (slice_get_past shards p le)

  -- up to a place, each shard is settled on the version, and from there on each is as it was
  pub record SettledBelow (first now : List ShardState) (n : ℕ) : Type 0 where
    pub count : length now ≡ length first
    pub below : (p : ℕ) → p < n → Holds (λ k. field (row_at (shard_at first p) k)) (shard_at now p)
    pub rest : (p : ℕ) → n ≤ p → shard_at now p ≡ shard_at first p

  pub all_settled : (first now : List ShardState) (n : ℕ) → length now ≤ n → SettledBelow first now n → SettleOn (λ s k. field (row_at s k)) first now
  all_settled first now n le so = record {
    count = so.count;
    each = λ p. elim (nat_lt p n) as (λ b. nat_lt p n ≡ b → Holds (λ k. field (row_at (shard_at first p) k)) (shard_at now p)) [
      | true ↦ λ t. so.below p (ltb-true p n t)
      | false ↦ λ f. let over : n ≤ p = ltb-false p n f in
          subst (λ (z : ShardState). Holds (λ k. field (row_at z k)) (shard_at now p)) (sym (missing first p (let c : length now ≡ length first = so.count in omega arith)))
          (subst (Holds (λ k. field (row_at empty k))) (sym (missing now p (omega arith))) empty_held)
    ] refl;
  }

pub at_most_itself : (n : ℕ) → n ≤ n
at_most_itself n = omega arith
