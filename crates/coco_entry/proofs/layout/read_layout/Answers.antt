use Rattle.std.proofs.Common.{arith}
use Rattle.coco_entry.proofs.GrammarLemmas.{reads_exactly}
use Rattle.coco_entry.proofs.LayoutLemmas.{layout_agrees}
use Rattle.coco_entry.proofs.layout.read_layout.Goals as goal

pub returns : goal.returns
returns c = reads_exactly 1 layout_agrees (omega arith) c.args.body.now c.get_whole.result (λ i. omega (arith, c.type_inv.body i)) c.get_whole.ensures
