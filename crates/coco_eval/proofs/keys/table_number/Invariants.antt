use Rattle.std.proofs.Common.{◌≡◌, ◌+◌, drop}
use Rattle.coco_ast.specs.Meaning.{place_of}
use Rattle.coco_eval.proofs.keys.table_number.Given as goal

abbrev pub invariant-loop-i : goal.invariant-loop-i
invariant-loop-i l = l.i + place_of (drop l.i l.tables) l.name ≡ place_of l.tables l.name
