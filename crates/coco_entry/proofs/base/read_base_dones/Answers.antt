use Rattle.std.proofs.Common.{arith}
use Rattle.coco_entry.proofs.GrammarLemmas.{reads_exactly}
use Rattle.coco_entry.proofs.BaseLemmas.{base_dones_agree}
use Rattle.coco_entry.proofs.base.read_base_dones.Goals as goal

pub returns : goal.returns
returns c = reads_exactly 5 base_dones_agree (omega arith) c.args.body.now c.get_whole_dones.result (λ i. omega (arith, c.type_inv.body i)) c.get_whole_dones.ensures
