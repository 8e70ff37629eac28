use Rattle.std.proofs.Common.{◌≡◌, ◌≤◌, ℕ, length}
use Rattle.json.specs.Json.{members, value}
use Rattle.serde_json.specs.Data.{Members, no_members}
use Rattle.serde_json.specs.Read.{of_members, converted}
use Rattle.coco_lines.specs.Plain.{Holds}
use Rattle.coco_lines.proofs.plain.parts_of.Given as goal

-- the parts say what the members so far have put into an object, and the others go on from there
abbrev pub invariant-members : goal.invariant-members
invariant-members l = (n : ℕ) × (old : Members) × (length l.reader ≤ n)
    × (converted (λ all. of_members all no_members) (members (value 126) (length l.initial.reader) l.initial.reader) ≡ converted (λ all. of_members all old) (members (value 126) n l.reader))
    × Holds l.parts old

abbrev pub decreases-members : goal.decreases-members
decreases-members l = length l.reader
