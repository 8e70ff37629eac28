use Rattle.std.proofs.Common.{◌≡◌, ◌<◌, ◌≤◌, ℕ}
use Rattle.std.specs.List.{Contains}
use Rattle.coco_chief.specs.Chief.{Chief}
use Rattle.coco_letters.specs.Turns.{AreFresh, AreSent, Counts, IsFrom}
use Rattle.coco_letters.specs.Worlds.{GoesOn}
use Rattle.coco_msg.specs.declared.message.Message.TheVariants.{Abort}
use Rattle.coco_net.specs.declared.letter.Letter.{Letter}
use Rattle.coco_vote.specs.Ending.{GiveUp, IsOverAt}
use Rattle.coco_vote.proofs.giving_up.all_take_end.Given as goal

-- what came of the nodes so far
abbrev pub invariant-loop-node : goal.invariant-loop-node
invariant-loop-node g l = record {
  give_up : GiveUp l.epoch l.initial.cores l.cores;
  told : (n : ℕ) (q : Letter) → n < l.node → Contains (g.N.Net.waiting l.initial.net n) q → IsFrom 8 q (Abort l.epoch) → IsOverAt l.epoch n l.cores;
  waits : (p : ℕ) → l.node ≤ p → g.N.Net.waiting l.net p ≡ g.N.Net.waiting l.initial.net p;
  silent : g.N.Net.sent l.net ≡ g.N.Net.sent l.initial.net;
  world : (chief : Chief) → GoesOn (record { cores = l.initial.cores; chief = chief; sent = g.N.Net.sent l.initial.net }) (record { cores = l.cores; chief = chief; sent = g.N.Net.sent l.net });
  sent : AreSent (g.N.Net.sent l.net) (g.N.Net.waiting l.net);
  fresh : AreFresh (g.N.Net.sent l.initial.net) (g.N.Net.fresh l.initial.net) (g.N.Net.sent l.net) (g.N.Net.fresh l.net);
  counts : Counts (g.N.Net.given l.initial.net) (g.N.Net.faults l.initial.net) (g.N.Net.last_seed l.initial.net) (g.N.Net.given l.net) (g.N.Net.faults l.net) (g.N.Net.last_seed l.net);
}
