use Rattle.coco_standing.proofs.AtRest.{at_rest_keep, at_rest_shards, loaded_stand, nodes_count}
use Rattle.coco_standing.proofs.laws.tables_at_rest.Goals as goal

pub returns : goal.returns
returns c = record { loaded = loaded_stand; shards = at_rest_shards; keep = at_rest_keep; nodes = nodes_count }
