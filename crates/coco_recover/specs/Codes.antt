-- A shard as data, for models that have one.
use Rattle.std.specs.Coded.{Coded}
use Rattle.std.specs.FinMap.{code}
use Rattle.coco_types.specs.Codes.{key_code}
use Rattle.coco_shard.specs.Codes.{row_code}
use Rattle.coco_shard.specs.RowState.{ShardState}

abbrev pub shard_code : Coded ShardState
shard_code = code key_code row_code
