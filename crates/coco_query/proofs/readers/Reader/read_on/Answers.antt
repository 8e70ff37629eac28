use Rattle.std.proofs.Common.{length, refl, sym, ap, ◌∙◌}
use Rattle.coco_claim.specs.Seats.{Drawer, Round}
use Rattle.coco_desks.proofs.GainLemmas.{still_of}
use Rattle.coco_query.specs.declared.readers.Reader.{Reader}
use Rattle.coco_query.proofs.ServingLemmas.{claims_kept, drawn_so, redrawn_last, so_far_more, so_far_none}
use Rattle.coco_query.proofs.readers.Reader.read_on.Goals as goal

pub loop-place-init : goal.loop-place-init
loop-place-init g c = record {
  same = refl;
  reader = refl;
  seat = refl;
  over = tt;
  so_far = so_far_none c.args.procs.now c.args.requests.now (length c.args.tables.now) (g.G.Gate.named c.args.gate.now) c.args.self.now;
}

pub read_for-requires-clause-locks : goal.read_for-requires-clause-locks
read_for-requires-clause-locks g c = still_of c.args.tables.now c.args.self.now.passes.items c.loop-place.self.passes.items c.requires.seated.locks c.loop-place.invariant.same

pub loop-place-preserved : goal.loop-place-preserved
loop-place-preserved g c =
    let was = c.loop-place.invariant in
    let b : Reader = c.loop-place.self in
    let seat : Drawer = c.next.new.seat in
    let read = c.in_ok-read_for.ensures.read in
    record {
      same = c.read_for.ensures.same ∙ was.same;
      reader = c.read_for.ensures.reader ∙ was.reader;
      seat = ap (λ (d : Drawer). d.claims) c.read_for.ensures.seat ∙ claims_kept b.seat seat c.in-Some.ensures.seat ∙ was.seat;
      over = c.in_ok-read_for.ensures.over;
      so_far = so_far_more c.args.procs.now c.args.requests.now (length c.args.tables.now) (g.G.Gate.named c.args.gate.now) c.args.self.now b c.read_for.new.self seat read.0 c.in-Some.place was.same was.reader was.so_far
          c.in-Some.ensures.some.1 c.read_for.ensures.seat read.1 read.2;
    }

pub returns-clause-read : goal.returns-clause-read
returns-clause-read g c =
    let was = c.loop-place.invariant in
    let a : Reader = c.args.self.now in
    let b : Reader = c.loop-place.self in
    let seat : Drawer = c.next.new.seat in
    let so = was.so_far in (
      so.served,
      redrawn_last c.args.procs.now c.args.requests.now (length c.args.tables.now) (g.G.Gate.named c.args.gate.now) a b seat so.served so.read,
      drawn_so c.args.procs.now c.args.requests.now (length c.args.tables.now) (g.G.Gate.named c.args.gate.now) a b seat so was.seat (ap (λ (r : Round). r.n) c.requires.seated.seat ∙ c.requires.numbers)
          (claims_kept b.seat seat c.in_default.ensures.seat) c.in_default.ensures.seat (sym c.in_default.ensures.none),
    )
