-- What lines have in a history that grew by them: a Done for each line that isn't refused, and one for each id.
use Rattle.std.specs.Prelude.{◌≡◌, ⊤, ◌≤◌, ℕ, List, [], ◌∷◌, Some, MatchOption}
use Rattle.std.specs.List.{AllByRecursion}
use Rattle.coco_types.specs.declared.call.Done.{Done}
use Rattle.coco_types.specs.declared.call.Request.{Request}
use Rattle.coco_ast.specs.History.{History, all_dones, done_of, last_epoch}
use Rattle.coco_ast.specs.Tree.{Procedures}
use Rattle.coco_lines.specs.Answers.{replied_id}
use Rattle.coco_lines.specs.Classes.{AreClasses, known_in}
use Rattle.coco_lines.specs.Lines.{Line}
use Rattle.coco_lines.specs.Reading.{request_on}
use Rattle.coco_lines.specs.declared.class.Class.{Class}

-- the line's request has the id, and the id has a Done
pub record HasReply (procs : Procedures) (dones : List Done) (line : Line) (id : ℕ) : Type 0 where
  pub request : Request
  pub reads : request_on procs line ≡ Some request
  pub id_is : request.id ≡ id
  pub done : Done
  pub found : done_of id dones ≡ Some done

-- each line is refused, or replied to with the Done of its id
abbrev pub HaveReplies : Procedures → List Done → List Line → List Class → Type 0
HaveReplies procs dones [] cs = cs ≡ []
HaveReplies procs dones (line ∷ lines) [] = ⊥
HaveReplies procs dones (line ∷ lines) (c ∷ cs) = MatchOption (replied_id c) ⊤ (HasReply procs dones line) × HaveReplies procs dones lines cs

-- none of its Dones is of a later epoch than its last
abbrev pub HasNoLaterDone : History → Type 0
HasNoLaterDone h = AllByRecursion (λ d. d.epoch ≤ last_epoch h) (all_dones h)

-- the lines so far have the same classes, and so has each line that comes next
abbrev pub ClassLinesAlike : Procedures → History → List (List Class) → History → List (List Class) → Type 0
ClassLinesAlike procs g cs k ds =
    (cs ≡ ds) × ((lines : List Line) (next other : List Class) → AreClasses procs (known_in g) lines next → AreClasses procs (known_in k) lines other → next ≡ other)
