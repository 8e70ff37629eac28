-- Each row that is had of a store has a table in the tree.
use Rattle.std.proofs.Common.{◌≡◌, ℕ, ◌+◌, ◌%◌, ◌<◌, Bool, true, false, cond, nat_eq, List, [], ◌∷◌, filter, map, Option, None, Some, refl, sym, ap, subst, ◌∙◌, arith}
use Rattle.std.specs.Prelude.{IsSome, is_some}
use Rattle.std.specs.List.{AllByRecursion, flat_map}
use Rattle.std.specs.FinMap.{empty, get-empty}
use Rattle.std.specs.Set.{is_member}
use Rattle.coco_types.proofs.Keys.{one_key}
use Rattle.coco_types.specs.RowKey.{RowKey, key_cmp, partition_of}
use Rattle.coco_types.specs.declared.call.Write.{Write}
use Rattle.coco_types.specs.declared.value.Value.{Value}
use Rattle.coco_ast.specs.Keyed.{Rows, on_partition, put_over, value_at, write_at}
use Rattle.coco_ast.specs.Meaning.{is_key}
use Rattle.coco_ast.proofs.KeyedLemmas.{value_on_partition}
use Rattle.coco_ast.proofs.Lists.{all_append, all_map, all_weaker}
use Rattle.coco_ast.proofs.Writing.{value_written}
use Rattle.coco_entry.specs.declared.prepared.Prepared.{Prepared}
use Rattle.coco_entry.specs.declared.prepared.Row.{Row}
use Rattle.coco_load.specs.Reading.{maps_read}
use Rattle.coco_store.specs.Contents.{committed_writes, writes_on}
use Rattle.coco_store.specs.Entries.{BaseEntry}
use Rattle.coco_store.specs.Rules.{EachBehind, HasTable, IsNextBase, IsNextPrepared, IsNextValue, IsNodeRow, Setting, base_of, base_values, values_of}
use Rattle.coco_recover.proofs.Keeping.{each_all, flat_all}

module _ (P : RowKey → Type 0) where
  abbrev AllKeys : Rows → Type 0
  AllKeys m = (k : RowKey) → IsSome (value_at m k) → P k

  none_keys : AllKeys empty
  none_keys k there = let no : false ≡ true = sym (ap is_some (get-empty key_cmp k)) ∙ there in cc

  written_keys : (m : Rows) (k : RowKey) (v : Option Value) → AllKeys m → P k → AllKeys (write_at m k v)
  written_keys m k v all here q there = by (is_key q k) refl (subst (λ (o : Option Value). is_some o ≡ true) (value_written m k v q) there)
    where
      by : (b : Bool) → is_key q k ≡ b → is_some (cond b v (value_at m q)) ≡ true → P q
      by true same some = subst P (sym (one_key q k same)) here
      by false other some = all q some

  put_keys : (m : Rows) (ws : List Write) → AllKeys m → AllByRecursion (λ (w : Write). P w.key) ws → AllKeys (put_over m ws)
  put_keys m [] all are = all
  put_keys m (w ∷ ws) all are = put_keys (write_at m w.key w.value) ws (written_keys m w.key w.value all are.0) are.1

  partition_keys : (count p : ℕ) (m : Rows) → AllKeys m → AllKeys (on_partition count p m)
  partition_keys count p m all k there = by (nat_eq (k.row % count) p) (subst (λ (o : Option Value). is_some o ≡ true) (value_on_partition count p m k) there)
    where
      by : (b : Bool) → is_some (cond b (value_at m k) None) ≡ true → P k
      by true some = all k some
      by false some = let no : false ≡ true = some in cc

  module _ (s : Setting) (p : ℕ) where
    rows_keys : (rows : List Row) → AllByRecursion (λ (r : Row). P r.key) rows → AllByRecursion (λ (w : Write). P w.key) (writes_on s p rows)
    rows_keys [] all = tt
    rows_keys (r ∷ rows) all = (
        let others = filter (λ (x : Row). nat_eq (partition_of s.entry.layout.partitions x.key) p) rows in
        elim (nat_eq (partition_of s.entry.layout.partitions r.key) p) as (λ b. AllByRecursion (λ (w : Write). P w.key) (map (λ (x : Row). record { key = x.key; value = x.value }) (cond b (r ∷ others) others))) [
          | true ↦ (all.0, rows_keys rows all.1)
          | false ↦ rows_keys rows all.1
        ])

    writes_keys : (epochs : List ℕ) (entries : List Prepared) → AllByRecursion (λ (e : Prepared). AllByRecursion (λ (r : Row). P r.key) e.rows) entries
        → AllByRecursion (λ (w : Write). P w.key) (committed_writes s p epochs entries)
    writes_keys epochs [] all = tt
    writes_keys epochs (e ∷ entries) all = (
        let others = filter (λ (x : Prepared). is_member nat_eq epochs x.epoch) entries in
        elim (is_member nat_eq epochs e.epoch) as (λ b. AllByRecursion (λ (w : Write). P w.key) (flat_map (λ (x : Prepared). writes_on s p x.rows) (cond b (e ∷ others) others))) [
          | true ↦ all_append (λ (w : Write). P w.key) (writes_on s p e.rows) (flat_map (λ (x : Prepared). writes_on s p x.rows) others) (rows_keys e.rows all.0) (writes_keys epochs entries all.1)
          | false ↦ writes_keys epochs entries all.1
        ])

-- those of a base, entry by entry
pub values_tabled : (s : Setting) (base : List BaseEntry) → EachBehind (IsNextBase s) [] base → AllByRecursion (λ (r : RowKey × Value). HasTable s r.0) (base_values base)
values_tabled s base each =
    let tabled = λ (r : RowKey × Value). HasTable s r.0 in
    flat_all tabled values_of base (each_all (IsNextBase s) (λ (e : BaseEntry). AllByRecursion tabled (values_of e))
    (λ before e is. each_all (IsNextValue s) tabled (λ _ r value. value.table) (base_values before) (values_of e) is.values) [] base each)

-- and those that are loaded
pub rows_tabled : (s : Setting) (base : List BaseEntry) (epochs : List ℕ) (entries : ℕ → List Prepared) → EachBehind (IsNextBase s) [] base → 0 < s.entry.layout.nodes
    → ((n : ℕ) → n < s.entry.layout.nodes → EachBehind (IsNextPrepared s n) [] (entries n))
    → (p j : ℕ) (k : RowKey) → IsSome (value_at (maps_read s (base_of s base).rows epochs entries p j) k) → HasTable s k
rows_tabled s base epochs entries each some prepared p j =
    let tabled = λ (k : RowKey). HasTable s k in
    let n = (p + j) % s.entry.layout.nodes in
    let less : n < s.entry.layout.nodes = omega (arith, some) in
    let puts = map (λ (r : RowKey × Value). record { key = r.0; value = Some r.1 }) (base_values base) in
    let first = put_keys tabled empty puts (none_keys tabled) (all_map (λ (r : RowKey × Value). record { key = r.0; value = Some r.1 }) (λ (w : Write). tabled w.key) (base_values base) (values_tabled s base each)) in
    put_keys tabled _ (committed_writes s p epochs (entries n)) (partition_keys tabled s.entry.layout.partitions p (base_of s base).rows first)
    (writes_keys tabled s p epochs (entries n)
    (each_all (IsNextPrepared s n) (λ (e : Prepared). AllByRecursion (λ (r : Row). tabled r.key) e.rows)
    (λ _ e is. all_weaker (IsNodeRow s n) (λ (r : Row). tabled r.key) (λ r row. row.table) e.rows is.rows) [] (entries n) (prepared n less)))
