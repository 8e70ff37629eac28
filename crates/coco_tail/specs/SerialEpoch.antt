-- What an epoch leaves, whoever ran it.
use Rattle.std.specs.Prelude.{◌≡◌, ℕ, ◌≤◌, List, length}
use Rattle.std.specs.List.{AllByRecursion}
use Rattle.coco_types.specs.Limits.{most_time}
use Rattle.coco_types.specs.declared.call.Done.{Done}
use Rattle.coco_types.specs.declared.call.Piece.{Piece}
use Rattle.coco_types.specs.declared.call.Request.{Request}
use Rattle.coco_ast.specs.Growth.{IsEpochOf}
use Rattle.coco_ast.specs.History.{AreTimed, RepliesAreRuns, rows_after}
use Rattle.coco_ast.specs.Keyed.{Rows}
use Rattle.coco_ast.specs.Tree.{Procedures}
use Rattle.coco_shard.specs.RowState.{ShardState}
use Rattle.coco_tail.specs.Pieces.{pieces_of}
use Rattle.coco_tail.specs.Shards.{AreOfPartitions, HaveNewest, HaveStable}

-- One Done for each request, in the order of commit, under the epoch's number, serial from the map that the shards
-- held; their pieces; and shards whose newest values are those of the map that the Dones leave, beside the stable
-- ones of the map before. So `promote` of each shard leaves that map, and `revert` the one before.
pub record IsSerialEpoch (ps : Procedures) (requests : List Request) (epoch : ℕ) (m : Rows) (shards : List ShardState) (dones : List Done) (parts : List Piece) : Type 0 where
  pub each : IsEpochOf requests (record { number = epoch; dones = dones })
  pub early : AllByRecursion (λ (d : Done). d.time ≤ most_time) dones
  pub replies : RepliesAreRuns ps m dones
  pub times : AreTimed dones
  pub pieces : parts ≡ pieces_of ps (length shards) requests m dones
  pub partitions : AreOfPartitions shards
  pub newest : HaveNewest (rows_after ps m dones) shards
  pub stable : HaveStable m shards
