use Rattle.std.proofs.Common.{◌≡◌, ◌-◌, List, None, vec_len}
use Rattle.coco_ast.specs.Keyed.{Rows}
use Rattle.coco_ast.specs.Meaning.{Run}
use Rattle.coco_occ.specs.Exchange.{Exchange}
use Rattle.coco_occ.specs.Course.{IsExtending}
use Rattle.coco_occ.proofs.course.Course.extension.Given as goal

abbrev pub invariant-loop-self : goal.invariant-loop-self
invariant-loop-self l = record {
  others : l.self ≡ record l.initial.self { place = l.self.place };
  stands : (r : Run) (m : Rows) (asked : List Exchange) → r.writes ≡ l.writes → IsExtending r m asked l.initial.self None → IsExtending r m asked l.self None;
}

abbrev pub decreases-loop-self : goal.decreases-loop-self
decreases-loop-self l = vec_len l.self.seen - l.self.place
