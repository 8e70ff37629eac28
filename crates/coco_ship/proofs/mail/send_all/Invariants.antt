use Rattle.std.proofs.Common.{◌≡◌, ◌++◌, List, length}
use Rattle.coco_net.specs.declared.letter.Posted.{Posted}
use Rattle.coco_ship.specs.Letters.{AreInside}
use Rattle.coco_ship.proofs.mail.send_all.Given as goal

abbrev pub decreases-loop-posted : goal.decreases-loop-posted
decreases-loop-posted g l = length l.letters.items

-- what was sent, and what is still in hand
abbrev pub invariant-loop-posted : goal.invariant-loop-posted
invariant-loop-posted g l = record {
  inside : AreInside l.letters.items;
  some : (xs : List Posted) × (g.N.Net.sent l.net ≡ g.N.Net.sent l.initial.net ++ xs) × (xs ++ l.letters.items ≡ l.initial.letters.items);
  given : g.N.Net.given l.net ≡ g.N.Net.given l.initial.net;
  fresh : g.N.Net.fresh l.net ++ l.letters.items ≡ g.N.Net.fresh l.initial.net ++ l.initial.letters.items;
  faults : g.N.Net.faults l.net ≡ g.N.Net.faults l.initial.net;
  seed : g.N.Net.last_seed l.net ≡ g.N.Net.last_seed l.initial.net;
}
