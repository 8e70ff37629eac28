-- The rows of a map by key: put over nothing they are the map, they rise, and those of a history's map are of declared tables.
use Rattle.std.proofs.Common.{◌≡◌, ℕ, ◌<◌, Bool, T, true, false, ◌&&◌, cond, List, [], ◌∷◌, ◌++◌, length, map, Option, None, Some, refl, sym, ap, subst, ◌∙◌}
use Rattle.std.specs.List.{AllByRecursion}
use Rattle.std.specs.FinMap.{empty, entries, entries_sorted, get, get-empty, get-entries, get-insert, get-remove, insert, is_sorted}
use Rattle.std.specs.FinMap.Entries.{below_all, find}
use Rattle.std.specs.Ordering.{is_eq, is_lt}
use Rattle.std.specs.declared.cmp.Ordering.{Ordering}
use Rattle.std.specs.declared.cmp.Ordering.TheVariants.{Equal, Greater, Less}
use Rattle.coco_types.specs.RowKey.{RowKey, key_cmp}
use Rattle.coco_types.specs.declared.call.Done.{Done}
use Rattle.coco_types.specs.declared.call.Write.{Write}
use Rattle.coco_types.specs.declared.value.Value.{Value}
use Rattle.coco_types.proofs.Keys.{is_key, key_itself, keys_total, one_key}
use Rattle.coco_types.proofs.KeyMaps.{same_keyed}
use Rattle.coco_ast.specs.Checks.{HasNoError, behind_builtins}
use Rattle.coco_ast.specs.History.{rows_after}
use Rattle.coco_ast.specs.Keyed.{Rows, put_over, write_at}
use Rattle.coco_ast.specs.Meaning.{run}
use Rattle.coco_ast.specs.Tree.{Procedures}
use Rattle.coco_ast.proofs.Lists.{all_append, all_both, all_map}
use Rattle.coco_ast.proofs.RunsPutWrites.{run_puts_writes}
use Rattle.coco_append.specs.Tables.{WritesDeclaredTables}
use Rattle.coco_store.specs.Entries.{BaseEntry}
use Rattle.coco_store.specs.Rules.{EachBehind, HasTable, IsNextBase, IsNextValue, Setting, base_values, values_of}
use Rattle.coco_recover.proofs.Keeping.{each_all}
use Rattle.coco_ckpt.proofs.Sorted.{below_each, left_of, right_of}

abbrev Row : Type 0
Row = RowKey × Value

abbrev write_of : Row → Write
write_of row = record { key = row.0; value = Some row.1 }

-- ---- the map again

abbrev or_else : Option Value → Option Value → Option Value
or_else None o = o
or_else (Some v) o = Some v

or_nothing : (o : Option Value) → or_else o None ≡ o
or_nothing None = refl
or_nothing (Some v) = refl

none_below : (k : RowKey) (es : List Row) → AllByRecursion (λ (e : Row). key_cmp k e.0 ≡ Less) es → find key_cmp k es ≡ None
none_below k [] below = refl
none_below k (e ∷ es) below = ap (λ (o : Ordering). cond (is_eq o) (Some e.1) (find key_cmp k es)) below.0 ∙ none_below k es below.1

puts_find : (es : List Row) → T (is_sorted key_cmp es) → (m : Rows) (q : RowKey) → get (put_over m (map write_of es)) q ≡ or_else (find key_cmp q es) (get m q)
puts_find [] sorted m q = refl
puts_find (e ∷ es) sorted m q =
    let low = below_each e.0 es (left_of (below_all key_cmp e.0 es) (is_sorted key_cmp es) sorted) in
    let later = puts_find es (right_of (below_all key_cmp e.0 es) (is_sorted key_cmp es) sorted) (insert m e.0 e.1) q in
    let here = get-insert keys_total m e.0 e.1 q in
    later ∙ ap (or_else (find key_cmp q es)) here
    ∙ elim (is_key q e.0) as (λ b. is_key q e.0 ≡ b → or_else (find key_cmp q es) (cond b (Some e.1) (get m q)) ≡ or_else (cond b (Some e.1) (find key_cmp q es)) (get m q)) [
      | true ↦ λ t. (let same : q ≡ e.0 = one_key q e.0 t in
          let none : find key_cmp q es ≡ None = ap (λ (k : RowKey). find key_cmp k es) same ∙ none_below e.0 es low in
          ap (λ (o : Option Value). or_else o (Some e.1)) none)
      | false ↦ λ t. refl
    ] refl

pub rows_again : (m : Rows) → put_over empty (map write_of (entries m)) ≡ m
rows_again m = same_keyed (put_over empty (map write_of (entries m))) m (λ q.
    puts_find (entries m) (entries_sorted m) empty q ∙ ap (or_else (find key_cmp q (entries m))) (get-empty key_cmp q) ∙ or_nothing (find key_cmp q (entries m)) ∙ sym (get-entries m q))

-- ---- they rise, and have their tables

module _ (s : Setting) where
  abbrev Has : RowKey → Type 0
  Has k = HasTable s k

  rise : (before es : List Row) → AllByRecursion (λ (e : Row). AllByRecursion (λ (r : Row). key_cmp r.0 e.0 ≡ Less) before) es → T (is_sorted key_cmp es) → AllByRecursion (λ (e : Row). Has e.0) es
      → EachBehind (IsNextValue s) before es
  rise before [] low sorted tables = tt
  rise before (e ∷ es) low sorted tables =
      let above = below_each e.0 es (left_of (below_all key_cmp e.0 es) (is_sorted key_cmp es) sorted) in
      let next = all_both (λ (x : Row). AllByRecursion (λ (r : Row). key_cmp r.0 x.0 ≡ Less) before) (λ (x : Row). key_cmp e.0 x.0 ≡ Less) (λ (x : Row). AllByRecursion (λ (r : Row). key_cmp r.0 x.0 ≡ Less) (before ++ e ∷ []))
      (λ x low_x less. all_append (λ (r : Row). key_cmp r.0 x.0 ≡ Less) before (e ∷ []) low_x (less, tt)) es low.1 above in
      (record { table = tables.0; rises = low.0 }, rise (before ++ e ∷ []) es next (right_of (below_all key_cmp e.0 es) (is_sorted key_cmp es) sorted) tables.1)

  nothing_before : (es : List Row) → AllByRecursion (λ (e : Row). AllByRecursion (λ (r : Row). key_cmp r.0 e.0 ≡ Less) []) es
  nothing_before [] = tt
  nothing_before (e ∷ es) = (tt, nothing_before es)

  -- the keys that have a value are of declared tables
  abbrev AreDeclared : Rows → Type 0
  AreDeclared m = (k : RowKey) (v : Value) → get m k ≡ Some v → Has k

  some_declared : (es : List Row) → ((k : RowKey) (v : Value) → find key_cmp k es ≡ Some v → Has k) → AllByRecursion (λ (e : Row). Has e.0) es
  some_declared [] found = tt
  some_declared (e ∷ es) found =
      let first : Has e.0 = found e.0 e.1 (ap (λ b. cond b (Some e.1) (find key_cmp e.0 es)) (key_itself e.0)) in (
        first,
        some_declared es (λ k v is.
            elim (is_key k e.0) as (λ b. is_key k e.0 ≡ b → Has k) [
              | true ↦ λ t. subst Has (sym (one_key k e.0 t)) first
              | false ↦ λ t. found k v (ap (λ b. cond b (Some e.1) (find key_cmp k es)) t ∙ is)
            ] refl),
      )

  written : (m : Rows) (k : RowKey) (o : Option Value) → AreDeclared m → Has k → AreDeclared (write_at m k o)
  written m k None all here q v is =
      let at : cond (is_key q k) None (get m q) ≡ Some v = sym (get-remove keys_total m k q) ∙ is in
      kept (is_key q k) at
    where
      kept : (b : Bool) → cond b None (get m q) ≡ Some v → Has q
      kept true e = let no : ◌≡◌ {A = Option Value} None (Some v) = e in cc
      kept false e = all q v e
  written m k (Some x) all here q v is =
      let at : cond (is_key q k) (Some x) (get m q) ≡ Some v = sym (get-insert keys_total m k x q) ∙ is in
      elim (is_key q k) as (λ b. is_key q k ≡ b → cond b (Some x) (get m q) ≡ Some v → Has q) [
        | true ↦ λ t e. subst Has (sym (one_key q k t)) here
        | false ↦ λ t e. all q v e
      ] refl at

  put_declared : (m : Rows) (ws : List Write) → AreDeclared m → AllByRecursion (λ (w : Write). Has w.key) ws → AreDeclared (put_over m ws)
  put_declared m [] all each = all
  put_declared m (w ∷ ws) all each = put_declared (write_at m w.key w.value) ws (written m w.key w.value all each.0) each.1

  none_declared : AreDeclared empty
  none_declared k v is = let no : None ≡ Some v = sym (get-empty key_cmp k) ∙ is in cc

  base_tables : (before entries : List BaseEntry) → EachBehind (IsNextBase s) before entries → AllByRecursion (λ (r : Row). Has r.0) (base_values entries)
  base_tables before [] each = tt
  base_tables before (e ∷ entries) each =
      all_append (λ (r : Row). Has r.0) (values_of e) (base_values entries)
      (each_all (IsNextValue s) (λ (r : Row). Has r.0) (λ _ r is. is.table) (base_values before) (values_of e) each.0.values)
      (base_tables (before ++ e ∷ []) entries each.1)

  module _ (writes : (own : Procedures) → WritesDeclaredTables own) (own : Procedures) (sound : HasNoError own) (tree : s.tree ≡ behind_builtins own) where
    run_declared : (m : Rows) (ds : List Done) → AreDeclared m → AreDeclared (rows_after s.tree m ds)
    run_declared m [] all = all
    run_declared m (d ∷ ds) all =
        let ran = run s.tree d.call m in
        let each : AllByRecursion (λ (w : Write). Has w.key) ran.writes =
        subst (λ (ps : Procedures). AllByRecursion (λ (w : Write). w.key.table < length ps.tables) (run ps d.call m).writes) (sym tree) (writes own sound d.call m) in
        run_declared ran.rows ds (subst AreDeclared (sym (run_puts_writes s.tree d.call m)) (put_declared m ran.writes all each))

    pub map_declared : (base : List BaseEntry) (ds : List Done) → EachBehind (IsNextBase s) [] base
        → let m = rows_after s.tree (put_over empty (map write_of (base_values base))) ds in AllByRecursion (λ (e : Row). Has e.0) (entries m)
    map_declared base ds each =
        let m = rows_after s.tree (put_over empty (map write_of (base_values base))) ds in
        let all = run_declared (put_over empty (map write_of (base_values base))) ds
        (put_declared empty (map write_of (base_values base)) none_declared (all_map write_of (λ (w : Write). Has w.key) (base_values base) (base_tables [] base each))) in
        some_declared (entries m) (λ k v is. all k v (get-entries m k ∙ is))

-- the rows of a map rise by key
pub rows_next : (t : Setting) (m : Rows) → AllByRecursion (λ (e : Row). HasTable t e.0) (entries m) → EachBehind (IsNextValue t) [] (entries m)
rows_next t m tables = rise t [] (entries m) (nothing_before t (entries m)) (entries_sorted m) tables
