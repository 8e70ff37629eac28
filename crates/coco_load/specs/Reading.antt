-- What the tables hold once rows of the base, and entries of the nodes' files, are read.
use Rattle.std.specs.Prelude.{ℕ, ◌+◌, ◌%◌, List, [], ◌∷◌, ◌++◌, map, Option, Some, ◌==◌, ◌&&◌, if◌then◌else◌}
use Rattle.coco_types.specs.RowKey.{RowKey}
use Rattle.coco_types.specs.declared.call.Write.{Write}
use Rattle.coco_types.specs.declared.value.Value.{Value}
use Rattle.coco_ast.specs.Keyed.{Rows, put_over, write_at}
use Rattle.coco_copy.specs.CopyState.{CopyState}
use Rattle.coco_entry.specs.declared.prepared.Prepared.{Prepared}
use Rattle.coco_entry.specs.declared.prepared.Row.{Row}
use Rattle.coco_shard.specs.RowState.{ShardState}
use Rattle.coco_store.specs.Contents.{Contents, committed_writes, on, rows_of, writes_on}
use Rattle.coco_store.specs.Rules.{Setting}
use Rattle.coco_load.specs.Tables.{HoldMaps, Maps}

-- ---- rows

-- rows of a base, as writes
abbrev pub puts : List (RowKey × Value) → List Write
puts = map (λ r. record { key = r.0; value = Some r.1 })

-- the maps with this value under the key in that of one table
abbrev pub with_row : ℕ → ℕ → RowKey → Option Value → Maps → Maps
with_row p j k v maps q i = if (q == p) && (i == j) then write_at (maps q i) k v else maps q i

-- the maps with rows of a node put over those of the tables that are on it
abbrev pub with_rows : Setting → ℕ → List Row → Maps → Maps
with_rows s n rows maps p j = if (p + j) % s.entry.layout.nodes == n then put_over (maps p j) (writes_on s p rows) else maps p j

-- ---- entries

-- the entries of each node's file that were read, with one more of this node
abbrev pub with_entry : ℕ → Prepared → (ℕ → List Prepared) → ℕ → List Prepared
with_entry n e entries m = if m == n then entries m ++ e ∷ [] else entries m

-- the base, and over it what the entries that were read of the table's node have for committed epochs
abbrev pub maps_read : Setting → Rows → List ℕ → (ℕ → List Prepared) → Maps
maps_read s base epochs entries p j = put_over (on s p base) (committed_writes s p epochs (entries ((p + j) % s.entry.layout.nodes)))

-- each table's rows by the file of its node
abbrev pub maps_of : Contents → Maps
maps_of c p j = rows_of c ((p + j) % c.setting.entry.layout.nodes) p

-- each table holds what was read
abbrev pub HoldRead : Setting → Rows → List ℕ → (ℕ → List Prepared) → List ShardState → List CopyState → Type 0
HoldRead s base epochs entries = HoldMaps s.entry.layout (maps_read s base epochs entries)
