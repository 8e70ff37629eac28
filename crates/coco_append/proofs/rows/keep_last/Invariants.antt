use Rattle.std.proofs.Common.{◌≡◌, drop}
use Rattle.std.specs.Option.{option_map, option_or}
use Rattle.coco_types.specs.RowKey.{RowKey}
use Rattle.coco_append.specs.LastWrites.{last_value}
use Rattle.coco_append.specs.Stamps.{stamp_at}
use Rattle.coco_append.proofs.rows.keep_last.Given as goal

-- the other writes go before those that are kept
abbrev pub invariant-loop-write : goal.invariant-loop-write
invariant-loop-write l = (k : RowKey) → option_or (option_map (λ v. (l.time, v)) (last_value k (drop l.write-index l.writes))) (stamp_at k l.last.entries)
    ≡ option_or (option_map (λ v. (l.time, v)) (last_value k l.writes)) (stamp_at k l.initial.last.entries)
