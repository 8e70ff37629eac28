use Rattle.std.proofs.Common.{◌≡◌, ◌++◌, take, drop}
use Rattle.coco_ast.specs.Meaning.{Datum, put_write}
use Rattle.coco_eval.proofs.keys.place_among.Given as goal

-- the writes so far stay in front
abbrev pub invariant-loop-i : goal.invariant-loop-i
invariant-loop-i l = (d : Datum) → put_write l.key d l.writes ≡ take l.i l.writes ++ put_write l.key d (drop l.i l.writes)
