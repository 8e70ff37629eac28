-- The texts of answers.
use Rattle.std.specs.Prelude.{◌≡◌, ℕ, List, [], ◌∷◌, ◌++◌, Option, Some, None, codes, decimal}
use Rattle.json.specs.Print.{quoted}
use Rattle.serde_json.specs.Data.{Data, null, number, unsigned, string, object, no_members, member}
use Rattle.serde_json.specs.Find.{of_integer}
use Rattle.serde_json.specs.Written.{compact_text}
use Rattle.coco_types.specs.declared.value.Value.{Value}
use Rattle.coco_types.specs.declared.value.Value.TheVariants.{Int, Text}
use Rattle.coco_types.specs.declared.call.Cause.{Cause}
use Rattle.coco_types.specs.declared.call.Cause.TheVariants.{User, Overflow, ZeroDivide, Kind, BadRow}
use Rattle.coco_types.specs.declared.call.Reply.{Reply}
use Rattle.coco_types.specs.declared.call.Reply.TheVariants as reply
use Rattle.coco_types.specs.declared.call.Done.{Done}
use Rattle.coco_lines.specs.declared.error.LineError.{LineError}
use Rattle.coco_lines.specs.declared.error.LineError.TheVariants as error

-- a value as JSON: null where there is none
abbrev pub value_json : Option Value → Data
value_json None = null
value_json (Some (Int n)) = number (of_integer n)
value_json (Some (Text s)) = string s

abbrev pub cause_word : Cause → List ℕ
cause_word (User n) = codes "user " ++ decimal n
cause_word Overflow = codes "overflow"
cause_word ZeroDivide = codes "zero divide"
cause_word Kind = codes "kind"
cause_word BadRow = codes "bad row"

-- the member that says the reply
abbrev pub reply_key : Reply → List ℕ
reply_key (reply.Ok value) = codes "ok"
reply_key (reply.Refused cause) = codes "refused"

abbrev pub reply_json : Reply → Data
reply_json (reply.Ok value) = value_json value
reply_json (reply.Refused cause) = string (cause_word cause)

abbrev pub count_json : ℕ → Data
count_json n = number (unsigned n)

-- a Done as an object, its members in sorted order
abbrev pub done_json : Done → Data
done_json done = object (member (codes "epoch") (count_json done.epoch) (member (codes "id") (count_json done.id)
    (member (reply_key done.reply) (reply_json done.reply) (member (codes "time") (count_json done.time) no_members))))

abbrev pub error_word : LineError → List ℕ
error_word error.Long = codes "long"
error_word error.Json = codes "json"
error_word error.Shape = codes "shape"
error_word error.Name = codes "name"
error_word error.Args = codes "args"
error_word error.Snapshot = codes "snapshot"
error_word error.Reused = codes "reused"
error_word error.Full = codes "full"
error_word error.Old = codes "old"

abbrev pub error_json : LineError → ℕ → Data
error_json e line = object (member (codes "error") (string (error_word e)) (member (codes "line") (count_json line) no_members))

-- what is said for a Done: compact JSON and a line feed
unfoldable pub done_text : Done → List ℕ
done_text done = compact_text (done_json done) ++ 10 ∷ []

-- what is said for a line that is refused, by its number
unfoldable pub error_text : LineError → ℕ → List ℕ
error_text e line = compact_text (error_json e line) ++ 10 ∷ []

-- ---- for private clauses

-- the member that says a reply, with the comma before it
abbrev pub reply_text : Reply → List ℕ
reply_text reply = 44 ∷ (quoted (reply_key reply) ++ 58 ∷ compact_text (reply_json reply))

-- something may have been put at the end
abbrev pub Grew : List ℕ → List ℕ → Type 0
Grew old new = (more : List ℕ) × (new ≡ old ++ more)
