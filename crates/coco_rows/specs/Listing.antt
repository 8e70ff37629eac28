-- Rows of any kind under their keys, beside the list of the keys of those that an epoch has touched, and what its end leaves of them.
use Rattle.std.specs.Prelude.{◌≡◌, ℕ, ◌+◌, ◌≤◌, Bool, true, false, if◌then◌else◌, List, [], ◌∷◌, ◌++◌, length, sum_by, Option, None, Some, IsSome}
use Rattle.std.specs.List.{list_any}
use Rattle.std.specs.List.Sorted.{IsStrictlySortedBy}
use Rattle.std.specs.Option.{option_map}
use Rattle.std.specs.Map.{keys_of, lookup, values_of}
use Rattle.std.specs.BTreeMap.{is_at}
use Rattle.coco_types.specs.RowKey.{RowKey, key_cmp}
use Rattle.coco_types.specs.declared.value.Value.{Value}

-- How rows are noted as touched, the version that one ends an epoch with (the newest, or the stable one), and a row at
-- rest, which isn't noted and has but one version.
pub record RowKind (R : Type 0) : Type 0 where
  pub is_noted : R → Bool
  pub version_of : Bool → R → Option Value
  pub at_rest : Option Value → R
  pub unnoted : (value : Option Value) → is_noted (at_rest value) ≡ false
  pub stays : (newest : Bool) (value : Option Value) → version_of newest (at_rest value) ≡ value

-- a map's entry at a key
abbrev pub kept_at : {R : Type 0} → List (RowKey × R) → RowKey → Option R
kept_at es k = lookup (is_at (key_cmp k)) es

abbrev pub IsRising : {R : Type 0} → List (RowKey × R) → Type 0
IsRising es = IsStrictlySortedBy key_cmp (keys_of es)

-- a key with what it has, where it has something
abbrev pub entry_of : {X : Type 0} → RowKey → Option X → List (RowKey × X)
entry_of k None = []
entry_of k (Some x) = (k, x) ∷ []

-- one part of each row that has it, under its key
abbrev pub part_of : {R X : Type 0} → (R → Option X) → List (RowKey × R) → List (RowKey × X)
part_of part [] = []
part_of part (e ∷ es) = entry_of e.0 (part e.1) ++ part_of part es

-- a row that isn't noted is as the last promote or revert left it
abbrev pub IsSound : {R : Type 0} → RowKind R → R → Type 0
IsSound kind row = kind.is_noted row ≡ false → (row ≡ kind.at_rest (kind.version_of false row)) × IsSome (kind.version_of false row)

-- 1 where the row isn't noted, so that its key isn't listed
abbrev pub waits : {R : Type 0} → RowKind R → R → ℕ
waits kind row = if kind.is_noted row then 0 else 1

-- The list has the key of each noted row, once, and room for the key of every row.
pub record IsListing {R : Type 0} (kind : RowKind R) (es : List (RowKey × R)) (keys : List RowKey) (capacity : ℕ) : Type 0 where
  pub rising : IsRising es
  pub sound : (k : RowKey) (row : R) → kept_at es k ≡ Some row → IsSound kind row
  pub listed : (k : RowKey) (row : R) → kept_at es k ≡ Some row → kind.is_noted row ≡ true → list_any (is_at (key_cmp k)) keys ≡ true
  pub once : length keys + sum_by (waits kind) (values_of es) ≤ length es
  pub room : length es ≤ capacity

-- what is left of a row at an epoch's end: nothing, where it has no value
abbrev pub settled : {R : Type 0} → RowKind R → Bool → Option R → Option R
settled kind promotes None = None
settled kind promotes (Some row) = option_map (λ value. kind.at_rest (Some value)) (kind.version_of promotes row)

-- the entries after one key's row is settled; at most one waits more, beside those that are gone
pub record Settles {R : Type 0} (kind : RowKind R) (promotes : Bool) (k : RowKey) (es fs : List (RowKey × R)) : Type 0 where
  pub at : (q : RowKey) → kept_at fs q ≡ (if is_at (key_cmp k) q then settled kind promotes (kept_at es k) else kept_at es q)
  pub count : sum_by (waits kind) (values_of fs) + length es ≤ sum_by (waits kind) (values_of es) + length fs + 1
  pub fewer : length fs ≤ length es
  pub rising : IsRising es → IsRising fs
