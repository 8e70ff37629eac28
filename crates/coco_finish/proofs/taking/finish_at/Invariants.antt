use Rattle.std.proofs.Common.{◌≡◌, ◌≢◌, ◌⊎◌, ℕ, length}
use Rattle.std.specs.List.{Contains}
use Rattle.coco_letters.specs.Turns.{AreFresh, AreSent, Counts}
use Rattle.coco_net.specs.declared.letter.Letter.{Letter}
use Rattle.coco_finish.specs.Finishing.{finished_of, TellsCommitted}
use Rattle.coco_finish.specs.Phase.{KeepTables, HaveTaken}
use Rattle.coco_finish.proofs.taking.finish_at.Given as goal

-- a letter less waits each time
abbrev pub decreases-loop-letter : goal.decreases-loop-letter
decreases-loop-letter g l = length (g.N.Net.waiting l.net l.node)

-- what has become of cores, tables and net since the first letter
abbrev pub invariant-loop-letter : goal.invariant-loop-letter
invariant-loop-letter g l = record {
  done : HaveTaken g.N.Net l.epoch l.initial.cores l.cores l.initial.tables l.tables l.initial.net l.net;
  keep : KeepTables l.initial.tables l.tables;
  count : length l.cores ≡ length l.initial.cores;
  answers : (q : Letter) → Contains (g.N.Net.waiting l.initial.net l.node) q → Contains (g.N.Net.waiting l.net l.node) q ⊎ (TellsCommitted l.epoch q → Contains (g.N.Net.fresh l.net) (finished_of l.node l.epoch));
  sent : AreSent (g.N.Net.sent l.net) (g.N.Net.waiting l.net);
  others : (p : ℕ) → p ≢ l.node → g.N.Net.waiting l.net p ≡ g.N.Net.waiting l.initial.net p;
  fresh : AreFresh (g.N.Net.sent l.initial.net) (g.N.Net.fresh l.initial.net) (g.N.Net.sent l.net) (g.N.Net.fresh l.net);
  counts : Counts (g.N.Net.given l.initial.net) (g.N.Net.faults l.initial.net) (g.N.Net.last_seed l.initial.net) (g.N.Net.given l.net) (g.N.Net.faults l.net) (g.N.Net.last_seed l.net);
}
