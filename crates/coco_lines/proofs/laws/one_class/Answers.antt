use Rattle.coco_lines.proofs.GrowingLemmas.{itself, one_front_of_all, one_list_of_all}
use Rattle.coco_lines.proofs.laws.one_class.Goals as goal

pub returns : goal.returns
returns c = record {
  batches = λ procs before batches cs ds g k low one two. one_list_of_all procs before low batches cs ds g k one two;
  lines = λ procs before size front xs ys bs es cs ds g k low cut recut is also one two.
      one_front_of_all procs before low size bs es front xs ys cs ds before before g k (itself before) cut recut is also one two;
}
