use Rattle.coco_finish.proofs.ExchangeLemmas.{committed_told, none_finished, reminded_fresh}
use Rattle.coco_finish.proofs.laws.unfinished_nodes_are_told.Goals as goal

pub returns : goal.returns
returns c = record {
  none = none_finished;
  committed = committed_told;
  reminded = λ e chief sent fresh sent_new fresh_new some last turns are. reminded_fresh e chief sent sent_new some last turns fresh fresh_new are;
}
