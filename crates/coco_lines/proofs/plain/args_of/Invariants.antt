use Rattle.std.proofs.Common.{◌≡◌, ◌≤◌, ℕ, ◌++◌, length}
use Rattle.json.specs.Json.{parse_map, items, value}
use Rattle.serde_json.specs.Read.{of_items, converted}
use Rattle.coco_lines.specs.Reading.{args_of}
use Rattle.coco_lines.proofs.plain.args_of.Given as goal

-- the arguments so far stand before those of the items that are left
abbrev pub invariant-items : goal.invariant-items
invariant-items l = (n : ℕ) × (length l.reader ≤ n)
    × (converted args_of (converted of_items (items (value 125) (length l.initial.reader) l.initial.reader)) ≡ parse_map (λ more. l.args ++ more) (converted args_of (converted of_items (items (value 125) n l.reader))))

abbrev pub decreases-items : goal.decreases-items
decreases-items l = length l.reader
