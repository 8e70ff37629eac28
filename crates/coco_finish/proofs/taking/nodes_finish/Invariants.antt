use Rattle.std.proofs.Common.{◌≡◌, ◌<◌, ◌≤◌, ℕ, []}
use Rattle.std.specs.List.{Contains}
use Rattle.coco_letters.specs.Turns.{AreFresh, AreSent, Counts}
use Rattle.coco_net.specs.declared.letter.Letter.{Letter}
use Rattle.coco_finish.specs.Finishing.{finished_of, TellsCommitted}
use Rattle.coco_finish.specs.Phase.{KeepTables, HaveTaken}
use Rattle.coco_finish.proofs.taking.nodes_finish.Given as goal

-- what came of the nodes so far
abbrev pub invariant-loop-node : goal.invariant-loop-node
invariant-loop-node g l = record {
  done : HaveTaken g.N.Net l.epoch l.initial.cores l.cores l.initial.tables l.tables l.initial.net l.net;
  keep : KeepTables l.initial.tables l.tables;
  answers : (n : ℕ) (q : Letter) → n < l.node → Contains (g.N.Net.waiting l.initial.net n) q → TellsCommitted l.epoch q → Contains (g.N.Net.fresh l.net) (finished_of n l.epoch);
  sent : AreSent (g.N.Net.sent l.net) (g.N.Net.waiting l.net);
  taken : (n : ℕ) → n < l.node → g.N.Net.waiting l.net n ≡ [];
  waits : (p : ℕ) → l.node ≤ p → g.N.Net.waiting l.net p ≡ g.N.Net.waiting l.initial.net p;
  fresh : AreFresh (g.N.Net.sent l.initial.net) (g.N.Net.fresh l.initial.net) (g.N.Net.sent l.net) (g.N.Net.fresh l.net);
  counts : Counts (g.N.Net.given l.initial.net) (g.N.Net.faults l.initial.net) (g.N.Net.last_seed l.initial.net) (g.N.Net.given l.net) (g.N.Net.faults l.net) (g.N.Net.last_seed l.net);
}
