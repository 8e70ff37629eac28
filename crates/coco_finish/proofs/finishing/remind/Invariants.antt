use Rattle.std.proofs.Common.{◌⊎◌, ◌+◌, ◌<◌, ◌≤◌}
use Rattle.coco_chief.specs.Shown.{chief_of}
use Rattle.coco_letters.specs.Turns.{AreSent}
use Rattle.coco_finish.specs.Exchanges.{AsksAll, HaveAllFinished}
use Rattle.coco_finish.specs.Phase.{HasFinished, KeepTables, MayFinish}
use Rattle.coco_vote.specs.Keeping.{KeepsLetters}
use Rattle.coco_finish.proofs.finishing.remind.Given as goal

-- what the exchanges so far did: a round of each lost a letter, or all have finished
abbrev pub invariant-loop-exchange : goal.invariant-loop-exchange
invariant-loop-exchange g l = record {
  may : MayFinish l.epoch l.cores l.tables;
  done : HasFinished g.N.Net l.epoch l.initial.cores l.cores (chief_of l.initial.chief) (chief_of l.chief) l.initial.tables l.tables l.initial.net l.net;
  keep : KeepTables l.initial.tables l.tables;
  asks : 1 < l._exchange → AsksAll l.epoch (chief_of l.chief) (g.N.Net.sent l.initial.net) (g.N.Net.sent l.net);
  lost : (g.N.Net.faults l.initial.net + l._exchange ≤ g.N.Net.faults l.net + 1) ⊎ HaveAllFinished (chief_of l.chief);
  letters : KeepsLetters g.N.Net l.initial.net l.net;
  sent : AreSent (g.N.Net.sent l.net) (g.N.Net.waiting l.net);
}
