use Rattle.coco_letters.proofs.WorldLemmas.{goes_on_then}
use Rattle.coco_letters.proofs.laws.ways_follow_one_another.Goals as goal

pub returns : goal.returns
returns c = goes_on_then
