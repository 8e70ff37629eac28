use Rattle.coco_load.proofs.Following.{all_is_read, base_grows, committed_is_read, nodes_decide, other_is_passed, reading_begins, tables_hold_the_map}
use Rattle.coco_load.proofs.laws.tables_follow_the_files.Goals as goal

pub returns : goal.returns
returns c = record {
  base = base_grows;
  begins = reading_begins;
  committed = committed_is_read;
  other = other_is_passed;
  nodes = nodes_decide;
  all = all_is_read;
  map = tables_hold_the_map;
}
