-- Two histories that no request line tells apart, whichever epochs follow both.
use Rattle.std.specs.Prelude.{◌≡◌, ◌↔◌, ℕ, List}
use Rattle.coco_ast.specs.History.{Epoch, History, IsOrdered, followed_by_all}
use Rattle.coco_ast.specs.Tree.{Procedures}
use Rattle.coco_lines.specs.Answers.{answers_in}
use Rattle.coco_lines.specs.Batches.{Batch}
use Rattle.coco_lines.specs.Classes.{AreClasses, known_in}
use Rattle.coco_lines.specs.Growing.{GrowsByBatch}
use Rattle.coco_lines.specs.Lines.{Line}
use Rattle.coco_lines.specs.declared.class.Class.{Class}

-- lines have the same classes after either; and where one grew by a batch with some epochs that follow both, so did the other, and its lines have the same answers
pub record AreSameToLines (procs : Procedures) (g h : History) : Type 0 where
  pub classes : (lines : List Line) (cs : List Class) → AreClasses procs (known_in g) lines cs ↔ AreClasses procs (known_in h) lines cs
  pub grow : (batch : Batch) (cs : List Class) (es : List Epoch) → IsOrdered (followed_by_all g es) → IsOrdered (followed_by_all h es)
      → GrowsByBatch procs g batch cs (followed_by_all g es) ↔ GrowsByBatch procs h batch cs (followed_by_all h es)
  pub answers : (batch : Batch) (cs : List Class) (es : List Epoch) (first : ℕ) → IsOrdered (followed_by_all g es) → IsOrdered (followed_by_all h es)
      → GrowsByBatch procs g batch cs (followed_by_all g es) → answers_in (followed_by_all g es) first cs ≡ answers_in (followed_by_all h es) first cs

-- and so it stays, whichever epochs follow both
abbrev pub NoLineTells : Procedures → History → History → Type 0
NoLineTells procs g h = (es : List Epoch) → IsOrdered (followed_by_all g es) → IsOrdered (followed_by_all h es) → AreSameToLines procs (followed_by_all g es) (followed_by_all h es)
