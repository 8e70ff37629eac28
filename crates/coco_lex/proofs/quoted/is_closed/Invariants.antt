use Rattle.std.proofs.Common.{◌+◌}
use Rattle.coco_lex.proofs.Texts.{SearchedTo}
use Rattle.coco_lex.proofs.quoted.is_closed.Given as goal

abbrev pub invariant-loop-b : goal.invariant-loop-b
invariant-loop-b l = SearchedTo l.rest (l.b-index + 1) l.is_escaped
