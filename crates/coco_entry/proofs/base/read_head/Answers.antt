use Rattle.std.proofs.Common.{arith}
use Rattle.coco_entry.proofs.GrammarLemmas.{reads_exactly}
use Rattle.coco_entry.proofs.BaseLemmas.{head_agrees}
use Rattle.coco_entry.proofs.base.read_head.Goals as goal

pub returns : goal.returns
returns c = reads_exactly 4 head_agrees (omega arith) c.args.body.now c.get_whole_head.result (λ i. omega (arith, c.type_inv.body i)) c.get_whole_head.ensures
