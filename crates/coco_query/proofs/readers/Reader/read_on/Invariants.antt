use Rattle.std.proofs.Common.{◌≡◌, ◌-◌, length}
use Rattle.coco_desks.specs.Gains.{AreSame}
use Rattle.coco_serial.specs.Applied.{HasEnded}
use Rattle.coco_query.proofs.ServingLemmas.{HasServed}
use Rattle.coco_query.proofs.readers.Reader.read_on.Given as goal

-- the requests at the places that were drawn are read for
abbrev pub invariant-loop-place : goal.invariant-loop-place
invariant-loop-place g l = record {
  same : AreSame l.initial.self.passes.items l.self.passes.items;
  reader : l.self.reader ≡ l.initial.self.reader;
  seat : l.self.seat.claims ≡ l.initial.self.seat.claims;
  over : HasEnded l.room;
  so_far : HasServed l.procs l.requests (length l.tables) (g.G.Gate.named l.gate) l.initial.self l.self;
}

abbrev pub decreases-loop-place : goal.decreases-loop-place
decreases-loop-place g l = l.claims.n - length l.self.seat.drawn
