-- The tables behind writes, and behind the calls of Dones.
use Rattle.std.proofs.Common.{◌≡◌, ℕ, suc, ◌-◌, ◌%◌, ◌<◌, Bool, true, false, cond, List, [], ◌∷◌, length, slice_set, Option, Some, sym, ap, ◌∙◌, refl, arith}
use Rattle.std.specs.List.{flat_map, slice_get}
use Rattle.std.specs.Option.{unwrap_or}
use Rattle.std.proofs.lemmas.List.{map-append}
use Rattle.std.proofs.lemmas.List.Elements.{filter-append}
use Rattle.coco_types.specs.RowKey.{RowKey}
use Rattle.coco_types.specs.declared.call.Done.{Done}
use Rattle.coco_types.specs.declared.call.Write.{Write}
use Rattle.coco_types.specs.declared.value.Value.{Value}
use Rattle.coco_ast.specs.History.{rows_after}
use Rattle.coco_ast.specs.Keyed.{Rows, put_over, write_at}
use Rattle.coco_ast.specs.Meaning.{run}
use Rattle.coco_ast.specs.Tree.{Procedures}
use Rattle.coco_ast.proofs.GrowthLemmas.{rows_after-append}
use Rattle.coco_copy.specs.CopyState.{CopyState}
use Rattle.coco_entry.specs.declared.layout.Layout.{Layout}
use Rattle.coco_load.specs.Reading.{puts}
use Rattle.coco_load.specs.Tables.{AreTables, HoldMap, shard_at}
use Rattle.coco_load.proofs.TableLemmas.{shard_left, shard_left_tables}
use Rattle.coco_load.proofs.Writes.{all_written, none_written, one_more_written, put_over-append, written_below}
use Rattle.coco_shard.specs.RowState.{ShardState, loaded}
use Rattle.coco_query.specs.Replaying.{HoldsItsMap}
use Rattle.coco_query.specs.Tables.{between, last_of}
use Rattle.coco_query.proofs.EpochLemmas.{is_between}

-- ---- the last of a list

pub last_is : (n : ℕ) (xs : List ℕ) → unwrap_or (slice_get xs (length xs - 1)) n ≡ last_of n xs
last_is n [] = refl
last_is n (x ∷ []) = refl
last_is n (x ∷ y ∷ xs) =
    ap (λ (k : ℕ). unwrap_or (slice_get (x ∷ y ∷ xs) k) n) (let h : length (x ∷ y ∷ xs) - 1 ≡ suc (length (y ∷ xs) - 1) = omega arith in h) ∙ last_is n (y ∷ xs)

-- ---- a write

module _ (layout : Layout) (alone : layout.copies ≡ 0) (key : RowKey) (value : Option Value) (shards : List ShardState) (copies : List CopyState) (are : AreTables layout shards copies)
    (i : ℕ) (now : List ShardState) (at : i ≡ key.row % length shards) (set : now ≡ slice_set shards i (loaded (shard_at shards i) key value)) where
  here : i ≡ key.row % layout.partitions
  here = at ∙ ap (λ (n : ℕ). key.row % n) are.shard_count

  pub write_tables : AreTables layout now copies
  write_tables = shard_left_tables layout key value shards copies i now here set are

  pub write_held : (m : Rows) → HoldMap layout m shards copies → HoldMap layout (write_at m key value) now copies
  write_held m held =
      all_written layout key value m now copies 1 (omega (arith, alone))
      (one_more_written layout key value m now copies 0 (shard_left layout key value shards copies 0 i now refl here set (written_below layout key value m 0) (none_written layout key value m shards copies held)))

-- there is a shard
pub some_shard : (layout : Layout) (m : Rows) (shards : List ShardState) → HoldsItsMap layout m shards → 0 < length shards
some_shard layout m shards held = let some = held.1.tables.ring.some in let count = held.1.tables.shard_count in omega (arith, some, count)

-- ---- a base's rows

pub lists_more : (m n : Rows) (rows list : List (RowKey × Value)) (old rest : List (List (RowKey × Value))) → n ≡ put_over m (puts rows) → rows ≡ list → old ≡ list ∷ rest
    → put_over n (puts (flat_map (λ (l : List (RowKey × Value)). l) rest)) ≡ put_over m (puts (flat_map (λ (l : List (RowKey × Value)). l) old))
lists_more m n rows list old rest is same first =
    let behind : List (RowKey × Value) = flat_map (λ (l : List (RowKey × Value)). l) rest in
    ap (λ (k : Rows). put_over k (puts behind)) (is ∙ ap (λ (l : List (RowKey × Value)). put_over m (puts l)) same)
    ∙ sym (put_over-append m (puts list) (puts behind))
    ∙ ap (put_over m) (sym (map-append (λ (r : RowKey × Value). let w : Write = record { key = r.0; value = Some r.1 } in w) list behind))
    ∙ ap (λ (ls : List (List (RowKey × Value))). put_over m (puts (flat_map (λ (l : List (RowKey × Value)). l) ls))) (sym first)

-- ---- a Done

pub followed : (procs : Procedures) (m : Rows) (first last : ℕ) (d : Done) → is_between first last d ≡ true → rows_after procs m (between first last (d ∷ [])) ≡ (run procs d.call m).rows
followed procs m first last d is = ap (λ (b : Bool). rows_after procs m (cond b (d ∷ []) [])) is

pub left_out : (procs : Procedures) (m : Rows) (first last : ℕ) (d : Done) → is_between first last d ≡ false → rows_after procs m (between first last (d ∷ [])) ≡ m
left_out procs m first last d is = ap (λ (b : Bool). rows_after procs m (cond b (d ∷ []) [])) is

pub one_done : (procs : Procedures) (m n : Rows) (first last : ℕ) (d : Done) (ds : List Done) → n ≡ rows_after procs m (between first last (d ∷ [])) → rows_after procs n (between first last ds) ≡ rows_after procs m (between first last (d ∷ ds))
one_done procs m n first last d ds is =
    ap (λ (k : Rows). rows_after procs k (between first last ds)) is ∙ sym (rows_after-append procs m (between first last (d ∷ [])) (between first last ds))
    ∙ ap (rows_after procs m) (sym (filter-append (is_between first last) (d ∷ []) ds))
