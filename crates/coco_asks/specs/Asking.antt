-- What a line asks of the rows at the end of an epoch, and what it is answered.
use Rattle.std.specs.Prelude.{◌≡◌, ℕ, ◌+◌, Bool, false, nat_lt, List, [], ◌∷◌, ◌++◌, length, Option, None, Some}
use Rattle.coco_types.specs.declared.limits.TheConstants.{MOST_LINE_BYTES}
use Rattle.coco_types.specs.declared.call.Done.{Done}
use Rattle.coco_types.specs.declared.call.Request.{Request}
use Rattle.coco_ast.specs.Keyed.{Rows}
use Rattle.coco_ast.specs.Meaning.{procedure_at, run}
use Rattle.coco_ast.specs.Tree.{Procedures}
use Rattle.coco_lines.specs.Lines.{Line}
use Rattle.coco_lines.specs.Reading.{asking_tests, first_that_fits, has_writes, json_of, request_in, request_on}
use Rattle.coco_lines.specs.Texts.{done_text, error_text}
use Rattle.coco_lines.specs.declared.error.LineError.{LineError}
use Rattle.coco_lines.specs.declared.error.LineError.TheVariants as error

-- whether the request's procedure contains `put` or `delete`
abbrev pub is_writing : Procedures → Option Request → Bool
is_writing procs None = false
is_writing procs (Some r) = has_writes (procedure_at procs.procs r.call.proc_no)

-- the errors that a line may have, each with its test, in the order in which they are tried: long, json, shape, name, args, and behind them that its procedure
-- writes. Its member `snapshot` and earlier ids play no part
unfoldable pub ask_tests : Procedures → Line → List (Bool × LineError)
ask_tests procs line =
    (nat_lt MOST_LINE_BYTES (length line), error.Long) ∷ (asking_tests procs (json_of line) ++ (is_writing procs (request_in procs (json_of line)), error.Snapshot) ∷ [])

-- the first error of a line
abbrev pub ask_error : Procedures → Line → Option LineError
ask_error procs line = first_that_fits (ask_tests procs line)

-- a store as it was at the end of an epoch: its procedures and its rows
pub record Past : Type 0 where
  pub procs : Procedures
  pub rows : Rows
  pub epoch : ℕ

-- a request as a Done of that epoch at time 0, with the reply of its run
abbrev pub done_in : Past → Request → Done
done_in past r = record { id = r.id; call = r.call; epoch = past.epoch; time = 0; reply = (run past.procs r.call past.rows).reply }

abbrev pub answer_by : Past → ℕ → Option LineError → Option Request → List ℕ
answer_by past n (Some e) r = error_text e n
answer_by past n None (Some r) = done_text (done_in past r)
answer_by past n None None = []

-- the answer of line n: the text of its first error; or, where it has none, of its request as a Done of the epoch
abbrev pub answer_at : Past → ℕ → Line → List ℕ
answer_at past n line = answer_by past n (ask_error past.procs line) (request_on past.procs line)

-- of lines numbered from n on
abbrev pub answers_from : Past → ℕ → List Line → List ℕ
answers_from past n [] = []
answers_from past n (line ∷ lines) = answer_at past n line ++ answers_from past (n + 1) lines

-- a line without an error is a request, so that each line has an answer
abbrev pub LinesAreAnswered : Type 0
LinesAreAnswered = (procs : Procedures) (line : Line) → ask_error procs line ≡ None → (r : Request) × (request_on procs line ≡ Some r)
