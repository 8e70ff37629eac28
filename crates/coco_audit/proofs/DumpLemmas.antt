-- The lines of keys, by the values that they have, are those of a map's rows.
use Rattle.std.proofs.Common.{◌≡◌, ℕ, ◌+◌, ◌<◌, ◌%◌, Bool, true, false, ◌||◌, ◌&&◌, ◌==◌, cond, List, [], ◌∷◌, ◌++◌, length, map, get_or, Option, None, Some, refl, sym, ap, subst, ◌∙◌, arith, inl, inr}
use Rattle.std.proofs.lemmas.Bool.{cases_lt, eqb-true}
use Rattle.std.proofs.lemmas.Grind.{flat_map-append}
use Rattle.std.proofs.lemmas.List.{get_or_default, nil_from_length}
use Rattle.std.proofs.lemmas.List.Filters.{dedup_is}
use Rattle.std.proofs.lemmas.List.Folds.{flat_map-map, list_any-append}
use Rattle.std.proofs.lemmas.List.Kept.{IsStrictlySortedBy-dedup}
use Rattle.std.proofs.lemmas.List.Sorted.{list_any-IsPermutation}
use Rattle.std.proofs.lemmas.Option.{unwrap_or-slice_get}
use Rattle.std.proofs.lemmas.Map.Keys.{sorted_head, sorted_tail}
use Rattle.std.proofs.lemmas.Map.Made.{is_some-lookup}
use Rattle.std.specs.BTreeMap.{is_at}
use Rattle.std.specs.FinMap.{empty, entries, from_entries, get-empty}
use Rattle.std.specs.List.{AllByRecursion, dedup, dedup_from, flat_map, list_any}
use Rattle.std.specs.List.Retain.{DiffersFromLast, IsFiltered}
use Rattle.std.specs.List.Sorted.{IsPermutation, IsSorted, IsStrictlySortedBy}
use Rattle.std.specs.Map.{keys_of, lookup}
use Rattle.std.specs.Option.{IsSome, is_some, unwrap_or}
use Rattle.std.specs.Cmp.{tied_then, unsigned_ties}
use Rattle.std.specs.Ordering.{eq_by_cmp, is_eq, nat_cmp}
use Rattle.std.specs.declared.cmp.Ordering.TheVariants.{Less}
use Rattle.coco_types.specs.RowKey.{RowKey, key_cmp}
use Rattle.coco_types.specs.declared.call.Done.{Done}
use Rattle.coco_types.specs.declared.value.Value.{Value}
use Rattle.coco_types.proofs.Keys.{is_key, keys_total, one_key}
use Rattle.coco_types.proofs.KeyMaps.{get_key, same_keyed}
use Rattle.coco_ast.specs.Keyed.{Rows, value_at}
use Rattle.coco_ast.specs.Tree.{Procedures}
use Rattle.coco_load.proofs.LentMaps.{entries_in_order}
use Rattle.coco_shard.specs.Kept.{entry_of}
use Rattle.coco_shard.specs.RowState.{ListsRows, RowState, ShardState, resting, stable_at}
use Rattle.coco_audit.specs.Dumping.{AreKeys, HasKeys, HaveValues, key_line, lines_of, shard_in, stable_in, text_of}
use Rattle.coco_audit.specs.Texts.{dump_done_text, dump_row_text, dump_text}

-- ---- keys with their values

abbrev has : List RowKey → RowKey → Bool
has keys k = list_any (is_at (key_cmp k)) keys

none_there : (b : Bool) → ◌≡◌ {A = Option Value} (cond b None None) None
none_there true = refl
none_there false = refl

apart : true ≡ false → ⊥
apart h = cc

no_value : (o : Option Value) → IsSome o → o ≡ None → ⊥
no_value o some none = apart (sym some ∙ ap is_some none)

pub some_there : (n : ℕ) → (n == 0) ≡ false → 0 < n
some_there n not = elim (cases_lt 0 n) [
  | inl some ↦ some
  | inr none ↦ (let is : n ≡ 0 = omega (arith, none) in absurd (apart (sym (ap (λ (m : ℕ). m == 0) is) ∙ not)))
]

module _ (f : RowKey → Option Value) where
  -- the rows of those that have one
  abbrev rows_of : List RowKey → List (RowKey × Value)
  rows_of [] = []
  rows_of (k ∷ ks) = entry_of k (f k) ++ rows_of ks

  lines_are : (procs : Procedures) (ks : List RowKey) → text_of (map (λ k. key_line procs k (f k)) ks) ≡ flat_map (dump_row_text procs) (rows_of ks)
  lines_are procs [] = refl
  lines_are procs (k ∷ ks) =
      let rest = text_of (map (λ k. key_line procs k (f k)) ks) in
      let others : rest ≡ flat_map (dump_row_text procs) (rows_of ks) = lines_are procs ks in
      elim (f k) as (λ o. key_line procs k o ++ rest ≡ flat_map (dump_row_text procs) (entry_of k o ++ rows_of ks)) [
        | None ↦ others
        | Some v ↦ ap (λ l. dump_row_text procs (k, v) ++ l) others
      ]

  all_kept : (P : RowKey → Type 0) (ks : List RowKey) → AllByRecursion P ks → AllByRecursion P (keys_of (rows_of ks))
  all_kept P [] all = all
  all_kept P (k ∷ ks) all = elim (f k) as (λ o. AllByRecursion P (keys_of (entry_of k o ++ rows_of ks))) [
    | None ↦ all_kept P ks all.1
    | Some v ↦ (all.0, all_kept P ks all.1)
  ]

  rows_rise : (ks : List RowKey) → IsStrictlySortedBy key_cmp ks → IsStrictlySortedBy key_cmp (keys_of (rows_of ks))
  unfolding IsStrictlySortedBy
  rows_rise [] rising = rising
  rows_rise (k ∷ ks) rising =
      let rest : IsStrictlySortedBy key_cmp (keys_of (rows_of ks)) = rows_rise ks (sorted_tail key_cmp k ks rising) in
      let above : AllByRecursion (λ y. key_cmp k y ≡ Less) (keys_of (rows_of ks)) = all_kept (λ y. key_cmp k y ≡ Less) ks (sorted_head key_cmp k ks rising) in
      elim (f k) as (λ o. IsStrictlySortedBy key_cmp (keys_of (entry_of k o ++ rows_of ks))) [
        | None ↦ rest
        | Some v ↦ (above, rest)
      ]

  -- a key that is among them has its value, and any other none
  row_at : (q : RowKey) (ks : List RowKey) → lookup (is_key q) (rows_of ks) ≡ cond (has ks q) (f q) None
  row_at q [] = refl
  row_at q (k ∷ ks) =
      let rest : lookup (is_key q) (rows_of ks) ≡ cond (has ks q) (f q) None = row_at q ks in
      elim (is_key q k) as (λ b. is_key q k ≡ b → lookup (is_key q) (entry_of k (f k) ++ rows_of ks) ≡ cond (b || has ks q) (f q) None) [
        | true ↦ λ at. here (f k) (ap f (one_key q k at)) at ks rest
        | false ↦ λ other. elim (f k) as (λ o. lookup (is_key q) (entry_of k o ++ rows_of ks) ≡ cond (has ks q) (f q) None) [
          | None ↦ rest
          | Some v ↦ ap (λ b. cond b (Some v) (lookup (is_key q) (rows_of ks))) other ∙ rest
        ]
      ] refl
    where
      here : (o : Option Value) → f q ≡ o → is_key q k ≡ true → (ks : List RowKey) → lookup (is_key q) (rows_of ks) ≡ cond (has ks q) (f q) None
          → lookup (is_key q) (entry_of k o ++ rows_of ks) ≡ f q
      here None is at ks rest = rest ∙ ap (λ o. cond (has ks q) o None) is ∙ none_there (has ks q) ∙ sym is
      here (Some v) is at ks rest = ap (λ b. cond b (Some v) (lookup (is_key q) (rows_of ks))) at ∙ sym is

  -- rising keys, of which none that has a value is missing, are those of the map
  rows_are : (m : Rows) (ks : List RowKey) → ((k : RowKey) → f k ≡ value_at m k) → IsStrictlySortedBy key_cmp ks → ((k : RowKey) → IsSome (f k) → has ks k ≡ true) → rows_of ks ≡ entries m
  rows_are m ks values rising all =
      let es = rows_of ks in
      entries_in_order es (rows_rise ks rising)
      ∙ ap entries (same_keyed (from_entries es) m (λ q. get_key es q ∙ row_at q ks ∙ by (f q) refl ∙ values q))
    where
      by : {q : RowKey} (o : Option Value) → f q ≡ o → cond (has ks q) (f q) None ≡ f q
      by {q} None is = ap (λ o. cond (has ks q) o None) is ∙ none_there (has ks q) ∙ sym is
      by {q} (Some v) is = ap (λ b. cond b (f q) None) (all q (subst IsSome (sym is) refl))

-- ---- shards

module _ (shards : List ShardState) where
  pub shard_is : (p : ℕ) (shard : ShardState) → p < length shards → shard ≡ get_or shards p shard → shard_in shards p ≡ shard
  shard_is p shard within is = unwrap_or-slice_get shards p empty ∙ get_or_default shards p empty shard within ∙ sym is

  nothing_in : (k : RowKey) → shards ≡ [] → stable_in shards k ≡ None
  nothing_in k none = ap (λ ss. stable_in ss k) none ∙ ap (λ (o : Option RowState). (unwrap_or o (resting None)).stable) (get-empty key_cmp k)

  -- what is found where there is no shard, and where there is one
  pub none_found : (k : RowKey) → (length shards == 0) ≡ true → ◌≡◌ {A = Option Value} None (stable_in shards k)
  none_found k is = sym (nothing_in k (nil_from_length shards (eqb-true (length shards) 0 is)))

  pub one_found : (k : RowKey) (shard : ShardState) → (length shards == 0) ≡ false → shard ≡ get_or shards (k.row % length shards) shard → stable_at shard k ≡ stable_in shards k
  one_found k shard some is = ap (λ s. stable_at s k) (sym (shard_is (k.row % length shards) shard (within (some_there (length shards) some)) is))
    where
      within : 0 < length shards → k.row % length shards < length shards
      within there = omega (arith, there)

  -- each key that has a value in its partition is among the keys
  has_all : (keys : List RowKey) → HasKeys shards (length shards) keys → (k : RowKey) → IsSome (stable_in shards k) → has keys k ≡ true
  has_all keys all k some = elim (cases_lt 0 (length shards)) [
    | inl there ↦ all (k.row % length shards) k (omega (arith, there)) some
    | inr none ↦ absurd (without shards refl (omega (arith, none)))
  ]
    where
      without : (ss : List ShardState) → shards ≡ ss → length ss ≡ 0 → ⊥
      without [] is none_long = no_value (stable_in shards k) some (nothing_in k is)
      without (s ∷ ss) is none_long = cc

  pub text_is : (procs : Procedures) (dones : List Done) (m : Rows) (keys : List RowKey) → HaveValues m shards → AreKeys shards keys
      → text_of (lines_of procs shards dones keys) ≡ dump_text procs dones m
  text_is procs dones m keys values are =
      let of_dones = map (dump_done_text procs) dones in
      let of_keys = map (λ k. key_line procs k (stable_in shards k)) keys in
      let rows : rows_of (stable_in shards) keys ≡ entries m = rows_are (stable_in shards) m keys values are.rising (has_all keys are.all) in
      flat_map-append (λ line. line) of_dones of_keys
      ∙ ap (λ l. l ++ text_of of_keys) (flat_map-map (λ line. line) (dump_done_text procs) dones)
      ∙ ap (λ l. flat_map (dump_done_text procs) dones ++ l) (lines_are (stable_in shards) procs keys ∙ ap (flat_map (dump_row_text procs)) rows)

  -- ---- the keys of one shard after another

  pub has_none : (keys : List RowKey) → HasKeys shards 0 keys
  has_none keys p k below some = absurd (omega (arith, below))

  pub has_more : (n : ℕ) (shard : ShardState) (old new : List RowKey) (rows : List (RowKey × Value)) → shard_in shards n ≡ shard → HasKeys shards n old
      → ListsRows (stable_at shard) rows → new ≡ old ++ keys_of rows → HasKeys shards (n + 1) new
  has_more n shard old new rows at before lists is p k below some = elim (cases_lt p n) [
    | inl less ↦ found k ∙ left_is (has old k) (has (keys_of rows) k) (before p k less some)
    | inr not ↦ (let same : p ≡ n = omega (arith, below, not) in
        let there : IsSome (stable_at shard k) = subst (λ s. IsSome (stable_at s k)) (ap (shard_in shards) same ∙ at) some in
        found k ∙ right_is (has old k) (has (keys_of rows) k) (sym (is_some-lookup (is_at (key_cmp k)) rows) ∙ ap is_some (lists.each k) ∙ there))
  ]
    where
      found : (k : RowKey) → has new k ≡ (has old k || has (keys_of rows) k)
      found k = ap (λ ks. has ks k) is ∙ list_any-append (is_at (key_cmp k)) old (keys_of rows)

      left_is : (a b : Bool) → a ≡ true → (a || b) ≡ true
      left_is true b h = refl
      left_is false b h = cc

      right_is : (a b : Bool) → b ≡ true → (a || b) ≡ true
      right_is true b h = refl
      right_is false b h = h

-- ---- each key once

abbrev pub same_key : RowKey → RowKey → Bool
same_key a b = (a.table == b.table) && (a.row == b.row)

pub keys_tie : (a b : RowKey) → same_key a b ≡ eq_by_cmp key_cmp a b
keys_tie a b =
    ap (λ t. t && (a.row == b.row)) (unsigned_ties a.table b.table) ∙ ap (λ t. is_eq (nat_cmp a.table b.table) && t) (unsigned_ties a.row b.row)
    ∙ tied_then (nat_cmp a.table b.table) (nat_cmp a.row b.row)

module _ (same : RowKey → RowKey → Bool) (ties : (a b : RowKey) → same a b ≡ eq_by_cmp key_cmp a b) where
  kept_from : (q k : RowKey) (ks : List RowKey) → (is_key q k || has ks q) ≡ true → has (dedup_from same k ks) q ≡ true
  kept_from q k [] there = there
  kept_from q k (x ∷ ks) there = elim (same x k) as (λ b. same x k ≡ b → has (cond b (dedup_from same k ks) (k ∷ dedup_from same x ks)) q ≡ true) [
    | true ↦ λ at. kept_from q k ks (twice (is_key q k) (is_key q x) (has ks q) (ap (is_key q) (one_key x k (sym (ties x k) ∙ at))) there)
    | false ↦ λ _. either (is_key q k) (is_key q x || has ks q) (has (dedup_from same x ks) q) there (kept_from q x ks)
  ] refl
    where
      twice : (a b c : Bool) → b ≡ a → (a || (b || c)) ≡ true → (a || c) ≡ true
      twice true b c e h = refl
      twice false true c e h = cc
      twice false false c e h = h

      either : (a b c : Bool) → (a || b) ≡ true → (b ≡ true → c ≡ true) → (a || c) ≡ true
      either true b c h f = refl
      either false b c h f = f h

  kept_once : (q : RowKey) (ks : List RowKey) → has ks q ≡ true → has (dedup same ks) q ≡ true
  kept_once q [] there = there
  kept_once q (k ∷ ks) there = kept_from q k ks there

  pub keys_are : (shards : List ShardState) (gathered sorted keys : List RowKey) → HasKeys shards (length shards) gathered → IsPermutation gathered sorted → IsSorted key_cmp sorted
      → IsFiltered (DiffersFromLast same) [] sorted keys → AreKeys shards keys
  keys_are shards gathered sorted keys all moved rises filtered =
      let is : keys ≡ dedup same sorted = dedup_is same sorted keys filtered in
      record {
        all = λ p k below some. ap (λ ks. has ks k) is
            ∙ kept_once k sorted (sym (list_any-IsPermutation (is_at (key_cmp k)) gathered sorted moved) ∙ all p k below some);
        rising = subst (IsStrictlySortedBy key_cmp) (sym is) (IsStrictlySortedBy-dedup keys_total ties sorted rises);
      }
