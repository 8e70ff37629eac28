-- Keys of rows, and their order.
use Rattle.std.specs.Prelude.{ℕ, ◌%◌}
use Rattle.std.specs.declared.cmp.Ordering.{Ordering}
use Rattle.std.specs.Ordering.{nat_cmp, ordering_then}

-- the number of a table, and of a row in it
pub record RowKey : Type 0 where
  pub table : ℕ
  pub row : ℕ

-- the partition of a row, of so many
abbrev pub partition_of : ℕ → RowKey → ℕ
partition_of count k = k.row % count

-- by table, and then by row
abbrev pub key_cmp : RowKey → RowKey → Ordering
key_cmp a b = ordering_then (nat_cmp a.table b.table) (nat_cmp a.row b.row)
