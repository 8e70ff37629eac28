use Rattle.std.proofs.Common.{arith}
use Rattle.coco_lex.proofs.Texts.{opens_first, opens_more}
use Rattle.coco_lex.proofs.quoted.content_of.Goals as goal

pub loop-end-init : goal.loop-end-init
loop-end-init c = opens_first c.args.rest.now c.requires

pub loop-end-preserved : goal.loop-end-preserved
loop-end-preserved c = opens_more c.args.rest.now c.loop-end.end c.loop-end.count c.part_len-len.result c.loop-end.invariant (omega arith) c.part_len-len.ensures
