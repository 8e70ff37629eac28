-- How a history grows by batches of lines: one epoch for each batch with a line of class new. Nothing is said here of numbers and times.
use Rattle.std.specs.Prelude.{◌≡◌, List, [], ◌∷◌}
use Rattle.coco_ast.specs.Growth.{GrowsBy}
use Rattle.coco_ast.specs.History.{History}
use Rattle.coco_ast.specs.Tree.{Procedures}
use Rattle.coco_lines.specs.Batches.{Batch}
use Rattle.coco_lines.specs.Classes.{AreClasses, known_in, new_of}
use Rattle.coco_lines.specs.declared.class.Class.{Class}

-- by a batch whose lines have these classes
pub record GrowsByBatch (procs : Procedures) (before : History) (batch : Batch) (classes : List Class) (after : History) : Type 0 where
  pub are : AreClasses procs (known_in before) batch classes
  pub grows : GrowsBy before (new_of classes) after

-- by one batch after another
abbrev pub GrowsByBatches : Procedures → History → List Batch → List (List Class) → History → Type 0
GrowsByBatches procs before [] classes after = (classes ≡ []) × (after ≡ before)
GrowsByBatches procs before (b ∷ bs) [] after = ⊥
GrowsByBatches procs before (b ∷ bs) (cs ∷ classes) after =
    (between : History) × GrowsByBatch procs before b cs between × GrowsByBatches procs between bs classes after
