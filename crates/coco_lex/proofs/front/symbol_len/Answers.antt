use Rattle.std.proofs.Common.{arith}
use Rattle.std.proofs.lemmas.Bool.{iff_false}
use Rattle.coco_lex.proofs.Fronts.{symbol_is_two}
use Rattle.coco_lex.proofs.front.symbol_len.Goals as goal
use Rattle.coco_lex.proofs.front.symbol_len.Goals.{else-rest-gt1-via-then-rest-gt1+then-rest-eq61+else-precedes_equals, else-rest-gt1-via-then-rest-gt1+else-rest-eq61, else-rest-gt1-via-else-rest-gt1}

pub returns-then-is_single-clause-longest : goal.returns-then-is_single-clause-longest
returns-then-is_single-clause-longest c m above within h =
    let two = symbol_is_two c.args.rest.now m above within h in
    elim c.else-rest-gt1.branch [
      | else-rest-gt1-via-then-rest-gt1+then-rest-eq61+else-precedes_equals w ↦ iff_false w.precedes_equals.ensures w.if-precedes_equals.false two.1
      | else-rest-gt1-via-then-rest-gt1+else-rest-eq61 w ↦ w.if-rest-eq61.false two.2
      | else-rest-gt1-via-else-rest-gt1 w ↦ omega arith
    ]
