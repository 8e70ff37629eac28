use Rattle.std.proofs.Common.{sym, ◌∙◌}
use Rattle.coco_chief.specs.Shown.{chief_of}
use Rattle.coco_settle.proofs.RestLemmas.{none_stand, none_up}
use Rattle.coco_settle.proofs.laws.finished_nodes_are_not_behind.Goals as goal

pub returns : goal.returns
returns c = record {
  none = λ next sent k rest all. none_up (chief_of k.chief) k.tables.behind.items rest.in_step.up all (rest.are.behind ∙ sym rest.are.chief);
  stand = none_stand;
}
