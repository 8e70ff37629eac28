use Rattle.std.proofs.Common.{◌≡◌, drop}
use Rattle.coco_eval.specs.Places.{given_at}
use Rattle.coco_eval.proofs.keys.given.Given as goal

abbrev pub invariant-loop-given : goal.invariant-loop-given
invariant-loop-given l = given_at (drop l.given-index l.values) l.key ≡ given_at l.values l.key
