use Rattle.std.proofs.Common.{◌≡◌, ◌++◌, ℕ, take}
use Rattle.coco_letters.specs.Saying.{posts_of}
use Rattle.coco_letters.specs.Turns.{Counts}
use Rattle.coco_letters.proofs.sending.send_actions.Given as goal

-- the letters of the first actions are sent
abbrev pub invariant-loop-action : goal.invariant-loop-action
invariant-loop-action g l = record {
  sent : g.N.Net.sent l.net ≡ g.N.Net.sent l.initial.net ++ posts_of l.from (take l.action-index l.actions);
  fresh : g.N.Net.fresh l.net ≡ g.N.Net.fresh l.initial.net ++ posts_of l.from (take l.action-index l.actions);
  waiting : (p : ℕ) → g.N.Net.waiting l.net p ≡ g.N.Net.waiting l.initial.net p;
  counts : Counts (g.N.Net.given l.initial.net) (g.N.Net.faults l.initial.net) (g.N.Net.last_seed l.initial.net) (g.N.Net.given l.net) (g.N.Net.faults l.net) (g.N.Net.last_seed l.net);
}
