use Rattle.coco_store_tests.proofs.recovery.five_anew.Goals as goal

pub read_node-requires : goal.read_node-requires
read_node-requires c = record {
  node = c.if-node-store.false;
  files = c.requires.is.fields.count;
  ring = record { some = c.requires.limits.partitions.0; around = c.requires.limits.copies };
  rises = rw c.as_slice.ensures.value c.requires.rises;
}
