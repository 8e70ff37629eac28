use Rattle.std.proofs.Common.{sym, ◌∙◌, arith}
use Rattle.coco_log.proofs.Walks.{head_open, head_short}
use Rattle.coco_log.proofs.gates.head_of.Goals as goal

pub returns-in-Ok : goal.returns-in-Ok
returns-in-Ok c = head_open c.args.bytes.now c.in-Ok.length c.in-Ok.field-0-1 (λ i. omega (arith, c.type_inv.bytes i)) (grind arith) c.if-bytes-ne1.false (sym c.get_u32.ensures.read ∙ c.in-Ok.is)

pub returns-in-Err : goal.returns-in-Err
returns-in-Err c = head_short c.args.bytes.now c.in-Err.field-0 (grind arith) c.if-bytes-ne1.false (sym c.get_u32.ensures.read ∙ c.in-Err.is)
