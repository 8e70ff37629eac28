use Rattle.coco_append.proofs.LastWriteLemmas.{rows_leave_the_map}
use Rattle.coco_store.specs.Contents.{map_in}
use Rattle.coco_append.proofs.PreparedEntries.{has_ready, may_prepare}
use Rattle.coco_append.proofs.runs.a_run_may_be_prepared.Goals as goal

pub returns : goal.returns
returns c = record {
  may = may_prepare;
  ready = λ files k good requests epoch may dones.
      has_ready files k good requests epoch may dones (rows_leave_the_map k.setting.tree k.setting.entry.layout.partitions requests (map_in k) dones);
}
