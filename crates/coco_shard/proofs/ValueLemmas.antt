-- The values and times of a shard's rows.
use Rattle.std.proofs.Common.{◌≡◌, ℕ, ◌≤◌, Bool, true, false, cond, ◌||◌, not, max, List, [], ◌∷◌, Option, None, Some, refl, sym, ap, ◌∙◌, arith, inl, inr, ◌⊎◌}
use Rattle.std.specs.Option.{option_and_then, option_map}
use Rattle.std.specs.List.{list_any}
use Rattle.std.specs.BTreeMap.{is_at}
use Rattle.std.proofs.lemmas.Bool.{cases_lt}
use Rattle.coco_types.specs.RowKey.{RowKey, key_cmp}
use Rattle.coco_types.specs.declared.value.Value.{Value}
use Rattle.coco_rows.specs.Versions.{at_rest, is_touched, version_of}
use Rattle.coco_rows.specs.declared.Row.{Row}
use Rattle.coco_rows.specs.Listing.{IsRising}
use Rattle.coco_rows.proofs.Parts.{part_rises, value_of_part}
use Rattle.coco_shard.specs.RowState.{resting, row_at, value_at, Holds, IsSettled, ListsRows, IsGreatestTime}
use Rattle.coco_shard.specs.Kept.{IsWhole, kept_at, values_in, most_rts, rts_of, settled, view_of, state_of}
use Rattle.coco_types.proofs.Keys.{is_key, one_key}
use Rattle.coco_types.proofs.KeyMaps.{same_keyed}
use Rattle.coco_shard.proofs.Entries.{get_view, state_in, row_in, no_row_in}

-- ---- the values of one version

value_of_kept : (stable : Bool) (es : List (RowKey × Row)) (k : RowKey) → option_and_then (version_of (not stable)) (kept_at es k) ≡ value_at stable (view_of es) k
value_of_kept stable es k = elim (kept_at es k) as (λ o. kept_at es k ≡ o → option_and_then (version_of (not stable)) o ≡ value_at stable (view_of es) k) [
  | None ↦ λ e. none_of stable ∙ sym (ap (λ row. cond stable row.stable row.newest) (no_row_in es k e))
  | Some kept ↦ λ e. some_of stable kept ∙ sym (ap (λ row. cond stable row.stable row.newest) (row_in es k kept e))
] refl
  where
    none_of : (stable : Bool) → ◌≡◌ {A = Option Value} None (cond stable (resting None).stable (resting None).newest)
    none_of true = refl
    none_of false = refl

    some_of : (stable : Bool) (kept : Row) → version_of (not stable) kept ≡ cond stable (state_of kept).stable (state_of kept).newest
    some_of true kept = refl
    some_of false kept = refl

pub lists_rows : (stable : Bool) (es : List (RowKey × Row)) → IsRising es → ListsRows (value_at stable (view_of es)) (values_in (not stable) es)
lists_rows stable es rising = record {
  rising = part_rises (version_of (not stable)) es rising;
  each = λ k. value_of_part (version_of (not stable)) es k rising ∙ value_of_kept stable es k;
}

-- ---- the greatest read time

two_sides : true ≡ false → ⊥
two_sides h = cc

rts_in : (es : List (RowKey × Row)) (k : RowKey) → (row_at (view_of es) k).rts ≡ rts_of (kept_at es k)
rts_in es k = elim (kept_at es k) as (λ o. kept_at es k ≡ o → (row_at (view_of es) k).rts ≡ rts_of o) [
  | None ↦ λ e. ap (λ row. row.rts) (no_row_in es k e)
  | Some kept ↦ λ e. ap (λ row. row.rts) (row_in es k kept e)
] refl

listed_bounds : (es : List (RowKey × Row)) (ks : List RowKey) (k : RowKey) → list_any (is_at (key_cmp k)) ks ≡ true → rts_of (kept_at es k) ≤ most_rts es ks
listed_bounds es [] k h = absurd (two_sides (sym h))
listed_bounds es (x ∷ ks) k h =
    elim (is_key k x) as (λ b. is_key k x ≡ b → rts_of (kept_at es k) ≤ max (rts_of (kept_at es x)) (most_rts es ks)) [
      | true ↦ λ t. let same : rts_of (kept_at es k) ≡ rts_of (kept_at es x) = ap (λ z. rts_of (kept_at es z)) (one_key k x t) in omega arith
      | false ↦ λ f.
          let below : rts_of (kept_at es k) ≤ most_rts es ks = listed_bounds es ks k (sym (ap (λ b. b || list_any (is_at (key_cmp k)) ks) f) ∙ h) in
          omega arith
    ] refl

-- a row that isn't listed is at rest, so it has no read time
kept_bounds : (es : List (RowKey × Row)) (ks : List RowKey) (room : ℕ) → IsWhole es ks room → (k : RowKey) → rts_of (kept_at es k) ≤ most_rts es ks
kept_bounds es ks room whole k = elim (kept_at es k) as (λ o. kept_at es k ≡ o → rts_of o ≤ most_rts es ks) [
  | None ↦ λ _. omega arith
  | Some kept ↦ λ e. elim (is_touched kept) as (λ t. is_touched kept ≡ t → kept.rts ≤ most_rts es ks) [
    | true ↦ λ t.
        let below : rts_of (kept_at es k) ≤ most_rts es ks = listed_bounds es ks k (whole.listed k kept e t) in
        let same : rts_of (kept_at es k) ≡ kept.rts = ap rts_of e in
        omega arith
    | false ↦ λ t. let none : kept.rts ≡ 0 = ap (λ row. row.rts) (whole.sound k kept e t).0 in omega arith
  ] refl
] refl

has_most : (es : List (RowKey × Row)) (ks : List RowKey) → (most_rts es ks ≡ 0) ⊎ ((k : RowKey) × (rts_of (kept_at es k) ≡ most_rts es ks))
has_most es [] = inl refl
has_most es (x ∷ ks) =
    elim (cases_lt (rts_of (kept_at es x)) (most_rts es ks)) [
      | inl less ↦ elim (has_most es ks) [
        | inl zero ↦ inr (x, omega arith)
        | inr most ↦ inr (most.0, let same : rts_of (kept_at es most.0) ≡ most_rts es ks = most.1 in omega arith)
      ]
      | inr more ↦ inr (x, omega arith)
    ]

pub most_is_greatest : (es : List (RowKey × Row)) (ks : List RowKey) (room : ℕ) → IsWhole es ks room → IsGreatestTime (view_of es) (most_rts es ks)
most_is_greatest es ks room whole =
    let bounds : (k : RowKey) → (row_at (view_of es) k).rts ≤ most_rts es ks =
    λ k. let same : (row_at (view_of es) k).rts ≡ rts_of (kept_at es k) = rts_in es k in
    let below : rts_of (kept_at es k) ≤ most_rts es ks = kept_bounds es ks room whole k in
    omega arith in
    elim (has_most es ks) [
      | inl none ↦
          let any : RowKey = record { table = 0; row = 0 } in
          let below : (row_at (view_of es) any).rts ≤ most_rts es ks = bounds any in
          record { bounds = bounds; at = any; attained = omega arith }
      | inr most ↦ record { bounds = bounds; at = most.0; attained = rts_in es most.0 ∙ most.1 }
    ]

-- ---- an epoch's end

abbrev rest_kept : Value → Row
rest_kept value = at_rest (Some value)

settled_state : (stable : Bool) (es : List (RowKey × Row)) (k : RowKey) → state_in (settled (not stable) (kept_at es k)) ≡ option_map (λ value. resting (Some value)) (value_at stable (view_of es) k)
settled_state stable es k =
    elim (kept_at es k) as (λ o. state_in (settled (not stable) o) ≡ option_map (λ value. resting (Some value)) (option_and_then (version_of (not stable)) o)) [
      | None ↦ refl
      | Some kept ↦ elim (version_of (not stable) kept) as (λ v. state_in (option_map rest_kept v) ≡ option_map (λ value. resting (Some value)) v) [ None ↦ refl | Some v ↦ refl ]
    ] ∙ ap (option_map (λ value. resting (Some value))) (value_of_kept stable es k)

pub settled_holds : (stable : Bool) (es fs : List (RowKey × Row)) → ((q : RowKey) → kept_at fs q ≡ settled (not stable) (kept_at es q)) → Holds (value_at stable (view_of es)) (view_of fs)
settled_holds stable es fs rows = λ k. get_view fs k ∙ ap state_in (rows k) ∙ settled_state stable es k

-- where all rows are at rest, a settling changes nothing that is seen
pub settle_stays : (es fs : List (RowKey × Row)) → IsSettled (view_of es) → ((q : RowKey) → kept_at fs q ≡ settled false (kept_at es q)) → view_of fs ≡ view_of es
settle_stays es fs still rows = same_keyed _ _ (λ k. settled_holds true es fs rows k ∙ sym (still k))
