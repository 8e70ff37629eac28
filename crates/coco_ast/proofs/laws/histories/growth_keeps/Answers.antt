use Rattle.coco_ast.proofs.GrowthLemmas as growth
use Rattle.coco_ast.proofs.laws.histories.growth_keeps.Goals as goal

pub returns : goal.returns
returns c = record { grown = growth.growth_keeps; new = growth.new_have_no_done }
