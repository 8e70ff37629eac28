use Rattle.std.proofs.Common.{◌∙◌}
use Rattle.coco_occ.proofs.Searches.{found_any}
use Rattle.coco_occ.proofs.course.is_written.Goals as goal

pub returns : goal.returns
returns c = λ rises. c.is_some.ensures ∙ found_any c.args.key c.args.writes.now c.place_of.result c.place_of.ensures.found c.place_of.ensures.none rises
