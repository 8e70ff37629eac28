-- What lines are a second time, on the history that they left.
use Rattle.std.specs.Prelude.{◌≡◌, ⊤, ℕ, ◌+◌, List, ◌++◌, length, map, slice_get, Option, None, Some}
use Rattle.coco_types.specs.declared.call.Done.{Done}
use Rattle.coco_types.specs.declared.call.Request.{Request}
use Rattle.coco_ast.specs.History.{History, all_dones, done_of, kept}
use Rattle.coco_ast.specs.Tree.{Procedures}
use Rattle.coco_lines.specs.Answers.{answer_by, answers_in, replied_id}
use Rattle.coco_lines.specs.Classes.{AreClasses, known_in}
use Rattle.coco_lines.specs.Lines.{Line}
use Rattle.coco_lines.specs.Reading.{request_on}
use Rattle.coco_lines.specs.Texts.{done_text}
use Rattle.coco_lines.specs.declared.class.Class.{Class}
use Rattle.coco_lines.specs.declared.class.Class.TheVariants.{Refused, Same, New}
use Rattle.coco_lines.specs.declared.error.LineError.{LineError}
use Rattle.coco_lines.specs.declared.error.LineError.TheVariants as error

-- a new request is the same the next time; what else a line was it is again
abbrev pub again : Class → Class
again (Refused e) = Refused e
again (Same id) = Same id
again (New r) = Same r.id

-- it isn't refused for want of room among the kept replies
abbrev pub IsNotFull : Class → Type 0
IsNotFull c = c ≡ Refused error.Full → ⊥

-- lines that left the history g, of these first classes, and others behind them, all answered in k: the lines are what they were and get the answers that g
-- has for them, and the others are what they would be behind g at once
pub record AreAnsweredAgain (procs : Procedures) (others : List Line) (first : List Class) (g : History) (second : List Class) (k : History) : Type 0 where
  pub more : List Class
  pub classes : second ≡ map again first ++ more
  pub are : AreClasses procs (known_in g) others more
  pub answers : (n : ℕ) → answers_in k n second ≡ answers_in g n first ++ answers_in k (n + length first) more

-- ---- where replies may have been forgotten

-- this class where a Done is kept, and else old
abbrev pub or_old : Option Done → Class → Class
or_old None c = Refused error.Old
or_old (Some d) c = c

-- a refused line again, where m is the history before its batch. One whose id was known with another call is refused so again as long as the id's Done is kept, and else it is old. One that
-- was refused for want of room may be anything: there may be room now, for it or for another of its id. Any other is refused as it was
abbrev pub IsRefusedAgain : Procedures → History → Line → LineError → Class → Type 0
IsRefusedAgain procs m line error.Reused second = (r : Request) × (request_on procs line ≡ Some r) × (second ≡ or_old (done_of r.id (kept m)) (Refused error.Reused))
IsRefusedAgain procs m line error.Full second = ⊤
IsRefusedAgain procs m line e second = second ≡ Refused e

-- a line again, by the class that it had: the same where the Done of its id is kept, and else old
abbrev pub IsAgain : Procedures → History → Line → Class → Class → Type 0
IsAgain procs m line (Refused e) second = IsRefusedAgain procs m line e second
IsAgain procs m line (Same id) second = second ≡ or_old (done_of id (kept m)) (Same id)
IsAgain procs m line (New r) second = second ≡ or_old (done_of r.id (kept m)) (Same r.id)

-- a line that left the history g, of the first class, comes again where m is the history before its batch, is then of the second class, and is answered in k
pub record ComesAgain (procs : Procedures) (g m k : History) (line : Line) (first second : Class) : Type 0 where
  pub class : IsAgain procs m line first second
  -- where the Done of its id is kept, its text is the answer now and was it then, whatever the line's number
  pub answer : (n p id : ℕ) (d : Done) → replied_id first ≡ Some id → done_of id (kept m) ≡ Some d → (answer_by (all_dones g) n first ≡ done_text d) × (answer_by (all_dones k) p second ≡ done_text d)

-- the line at this place, and its class
abbrev pub StandsAt : ℕ → List Line → List Class → Line → Class → Type 0
StandsAt i lines cs line c = (slice_get lines i ≡ Some line) × (slice_get cs i ≡ Some c)
