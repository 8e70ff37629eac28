-- Maps from keys to values, what is put over them, and the part of one that a partition has.
use Rattle.std.specs.Prelude.{◌≡◌, ℕ, nat_eq, List, [], ◌∷◌, Option, None, Some}
use Rattle.std.specs.List.{AllByRecursion}
use Rattle.std.specs.FinMap.{FinMap, get, insert, remove, retain_keys}
use Rattle.coco_types.specs.RowKey.{RowKey, key_cmp, partition_of}
use Rattle.coco_types.specs.declared.call.Write.{Write}
use Rattle.coco_types.specs.declared.value.Value.{Value}

-- a finite map from keys to values; a key that isn't there has no value
abbrev pub Rows : Type 0
Rows = FinMap key_cmp Value

abbrev pub value_at : Rows → RowKey → Option Value
value_at m k = get m k

-- the map with this value under the key; none takes the key away
abbrev pub write_at : Rows → RowKey → Option Value → Rows
write_at m k None = remove m k
write_at m k (Some v) = insert m k v

-- the map with these writes put over it, one after another
abbrev pub put_over : Rows → List Write → Rows
put_over m [] = m
put_over m (w ∷ ws) = put_over (write_at m w.key w.value) ws

-- the rows of the partition p of so many: those whose row number is p modulo their count
abbrev pub on_partition : ℕ → ℕ → Rows → Rows
on_partition count p m = retain_keys m (λ k. nat_eq (partition_of count k) p)

-- two maps have the same at each of these keys
abbrev pub AgreeOn : List RowKey → Rows → Rows → Type 0
AgreeOn keys m n = AllByRecursion (λ k. value_at m k ≡ value_at n k) keys
