-- What a line is answered, by its number and its class, in a history.
use Rattle.std.specs.Prelude.{ℕ, ◌+◌, List, [], ◌∷◌, ◌++◌, Option, None, Some}
use Rattle.coco_types.specs.declared.call.Done.{Done}
use Rattle.coco_ast.specs.History.{History, all_dones, done_of}
use Rattle.coco_lines.specs.Texts.{done_text, error_text}
use Rattle.coco_lines.specs.declared.class.Class.{Class}
use Rattle.coco_lines.specs.declared.class.Class.TheVariants.{Refused, Same, New}

abbrev pub text_of : Option Done → List ℕ
text_of None = []
text_of (Some d) = done_text d

-- its error; or, for class same and new, the text of the Done of its id
abbrev pub answer_by : List Done → ℕ → Class → List ℕ
answer_by dones n (Refused e) = error_text e n
answer_by dones n (Same id) = text_of (done_of id dones)
answer_by dones n (New r) = text_of (done_of r.id dones)

-- of lines numbered from n on
abbrev pub answers_by : List Done → ℕ → List Class → List ℕ
answers_by dones n [] = []
answers_by dones n (c ∷ cs) = answer_by dones n c ++ answers_by dones (n + 1) cs

abbrev pub answers_in : History → ℕ → List Class → List ℕ
answers_in h n classes = answers_by (all_dones h) n classes

-- the id whose Done a line of this class is answered with
abbrev pub replied_id : Class → Option ℕ
replied_id (Refused e) = None
replied_id (Same id) = Some id
replied_id (New r) = Some r.id
