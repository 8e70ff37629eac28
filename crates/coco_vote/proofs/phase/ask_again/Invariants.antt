use Rattle.std.proofs.Common.{◌≡◌, ◌<◌, ℕ, false, List}
use Rattle.std.specs.List.{Contains}
use Rattle.coco_chief.specs.Chief.{Chief}
use Rattle.coco_chief.specs.Shown.{chief_of}
use Rattle.coco_chief.specs.Table.{has_voted}
use Rattle.coco_letters.specs.Telling.{Adds, IsOfChief}
use Rattle.coco_letters.specs.Turns.{Counts}
use Rattle.coco_letters.specs.Worlds.{GoesOn}
use Rattle.coco_node.specs.Node.{Node}
use Rattle.coco_vote.specs.Counting.{prepare_of}
use Rattle.coco_vote.proofs.phase.ask_again.Given as goal

-- those before it are asked again
abbrev pub invariant-loop-node : goal.invariant-loop-node
invariant-loop-node g l = record {
  asked : (n : ℕ) → n < l.node → has_voted n (chief_of l.chief) ≡ false → Contains (g.N.Net.fresh l.net) (prepare_of n l.epoch);
  says : Adds IsOfChief (g.N.Net.sent l.initial.net) (g.N.Net.sent l.net);
  world : (cores : List Node) (core : Chief) → GoesOn (record { cores = cores; chief = core; sent = g.N.Net.sent l.initial.net }) (record { cores = cores; chief = core; sent = g.N.Net.sent l.net });
  counts : Counts (g.N.Net.given l.initial.net) (g.N.Net.faults l.initial.net) (g.N.Net.last_seed l.initial.net) (g.N.Net.given l.net) (g.N.Net.faults l.net) (g.N.Net.last_seed l.net);
}
