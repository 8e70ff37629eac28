use Rattle.std.proofs.Common.{◌≡◌, ◌≢◌, ◌+◌, ◌++◌, ℕ, length}
use Rattle.coco_ship.proofs.mail.take_all.Given as goal

-- the letters taken, and those that still wait
abbrev pub invariant-loop-letter : goal.invariant-loop-letter
invariant-loop-letter g l = record {
  all : l.letters.items ++ g.N.Net.waiting l.net l.place ≡ g.N.Net.waiting l.initial.net l.place;
  count : l._letter + length (g.N.Net.waiting l.net l.place) ≡ length (g.N.Net.waiting l.initial.net l.place);
  others : (p : ℕ) → p ≢ l.place → g.N.Net.waiting l.net p ≡ g.N.Net.waiting l.initial.net p;
  sent : g.N.Net.sent l.net ≡ g.N.Net.sent l.initial.net;
  given : g.N.Net.given l.net ≡ g.N.Net.given l.initial.net;
  faults : g.N.Net.faults l.net ≡ g.N.Net.faults l.initial.net;
  seed : g.N.Net.last_seed l.net ≡ g.N.Net.last_seed l.initial.net;
}
