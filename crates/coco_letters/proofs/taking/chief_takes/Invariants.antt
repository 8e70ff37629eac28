use Rattle.std.proofs.Common.{◌≡◌, ◌≢◌, ℕ, List, length}
use Rattle.coco_chief.specs.Chief.{Chief}
use Rattle.coco_chief.specs.Shown.{chief_of}
use Rattle.coco_net.specs.declared.letter.Posted.{Posted}
use Rattle.coco_node.specs.Node.{Node}
use Rattle.coco_letters.specs.Taking.{ChiefTakes}
use Rattle.coco_letters.specs.Turns.{AreFresh, AreSent, Counts}
use Rattle.coco_letters.specs.Worlds.{GoesOn}
use Rattle.coco_letters.proofs.taking.chief_takes.Given as goal

-- a letter less waits each time
abbrev pub decreases-loop-letter : goal.decreases-loop-letter
decreases-loop-letter g l = length (g.N.Net.waiting l.net 8)

-- what has become of core and net since the first letter: whoever takes those that wait still has taken all
abbrev pub invariant-loop-letter : goal.invariant-loop-letter
invariant-loop-letter g l = record {
  nodes : (chief_of l.chief).nodes ≡ (chief_of l.initial.chief).nodes;
  heard : (end : Chief) (said : List Posted) → ChiefTakes (g.N.Net.waiting l.net 8) (chief_of l.chief) (g.N.Net.sent l.net) end said
      → ChiefTakes (g.N.Net.waiting l.initial.net 8) (chief_of l.initial.chief) (g.N.Net.sent l.initial.net) end said;
  world : (cores : List Node) → GoesOn (record { cores = cores; chief = chief_of l.initial.chief; sent = g.N.Net.sent l.initial.net }) (record { cores = cores; chief = chief_of l.chief; sent = g.N.Net.sent l.net });
  sent : AreSent (g.N.Net.sent l.net) (g.N.Net.waiting l.net);
  others : (p : ℕ) → p ≢ 8 → g.N.Net.waiting l.net p ≡ g.N.Net.waiting l.initial.net p;
  fresh : AreFresh (g.N.Net.sent l.initial.net) (g.N.Net.fresh l.initial.net) (g.N.Net.sent l.net) (g.N.Net.fresh l.net);
  counts : Counts (g.N.Net.given l.initial.net) (g.N.Net.faults l.initial.net) (g.N.Net.last_seed l.initial.net) (g.N.Net.given l.net) (g.N.Net.faults l.net) (g.N.Net.last_seed l.net);
}
