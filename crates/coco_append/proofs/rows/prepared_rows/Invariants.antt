use Rattle.std.proofs.Common.{◌≡◌, drop}
use Rattle.std.specs.Option.{option_or}
use Rattle.coco_types.specs.RowKey.{RowKey}
use Rattle.coco_append.specs.LastWrites.{held_pieces, last_stamp}
use Rattle.coco_append.specs.Stamps.{stamp_at}
use Rattle.coco_append.proofs.rows.prepared_rows.Given as goal

-- the other pieces go before those that are kept
abbrev pub invariant-loop-piece : goal.invariant-loop-piece
invariant-loop-piece l = (k : RowKey) → option_or (last_stamp k (held_pieces l.held (drop l.piece-index l.pieces))) (stamp_at k l.last.entries) ≡ last_stamp k (held_pieces l.held l.pieces)
