use Rattle.coco_lost.proofs.MapLemmas.{finish_keeps, one_map, shards_hold_one}
use Rattle.coco_lost.proofs.laws.maps_of_tables.Goals as goal

pub returns-clause-one : goal.returns-clause-one
returns-clause-one c = one_map

pub returns-clause-rest : goal.returns-clause-rest
returns-clause-rest c = shards_hold_one

pub returns-clause-finish : goal.returns-clause-finish
returns-clause-finish c = finish_keeps
