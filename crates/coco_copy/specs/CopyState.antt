-- What contracts see of a copy: its current epoch, its stable map, and what pends in this epoch for each key.
use Rattle.std.specs.Prelude.{ℕ, Option, None, Some, unwrap_or}
use Rattle.std.specs.Option.{option_map}
use Rattle.std.specs.FinMap.{FinMap, get, empty}
use Rattle.coco_types.specs.RowKey.{RowKey, key_cmp}
use Rattle.coco_types.specs.declared.value.Value.{Value}
use Rattle.coco_ast.specs.Keyed.{Rows, value_at}

-- what pends is the time of a put and its value, none where the row is to go
pub record CopyState : Type 0 where
  pub epoch : ℕ
  pub stable : Rows
  pub pending : FinMap key_cmp (ℕ × Option Value)

-- the stable map with the pending values put over it, at a key
abbrev pub promoted_at : CopyState → RowKey → Option Value
promoted_at s k = unwrap_or (option_map (λ p. p.1) (get s.pending k)) (value_at s.stable k)

-- the table in an epoch in which nothing was put yet
abbrev pub begun : ℕ → Rows → CopyState
begun epoch stable = record { epoch = epoch; stable = stable; pending = empty }
