use Rattle.std.proofs.Common.{arith}
use Rattle.coco_entry.proofs.GrammarLemmas.{reads_exactly}
use Rattle.coco_entry.proofs.BaseLemmas.{base_rows_agree}
use Rattle.coco_entry.proofs.base.read_base_rows.Goals as goal

pub returns : goal.returns
returns c = reads_exactly 6 base_rows_agree (omega arith) c.args.body.now c.get_whole_rows.result (λ i. omega (arith, c.type_inv.body i)) c.get_whole_rows.ensures
