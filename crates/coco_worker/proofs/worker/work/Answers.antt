use Rattle.std.proofs.Common.{◌≡◌, ℕ, ◌<◌, ◌∷◌, [], ◌++◌, List, length, refl, sym, ap, ◌∙◌, subst}
use Rattle.coco_claim.specs.Seats.{Drawer, Round}
use Rattle.coco_claim.proofs.Drawing.{drew, same_claims}
use Rattle.coco_desks.proofs.GainLemmas.{still_of}
use Rattle.coco_worker.specs.Working.{Job, Worked, Works}
use Rattle.coco_worker.specs.declared.slot.Slot.{Slot}
use Rattle.coco_worker.proofs.WorkLemmas.{the_job, works_drawn, works_redrawn, works_so_more, works_so_none}
use Rattle.coco_worker.proofs.worker.work.Goals as goal

pub loop-place-init : goal.loop-place-init
loop-place-init g c =
    let job : Job = the_job c.args.procs.now c.args.requests.now (length c.args.shards.now) c.args.slot.now.worker c.args.config (g.N.Net.carries c.args.net.now) in
    record {
      same = refl;
      same_copies = refl;
      worker = refl;
      seat = c.requires.seat;
      over = tt;
      gated = λ is. is;
      so_far = works_so_none job c.args.slot.now;
    }

pub work_off-requires-clause-locks : goal.work_off-requires-clause-locks
work_off-requires-clause-locks g c = still_of c.args.shards.now c.args.slot.now.passes.items c.loop-place.slot.passes.items c.requires.locks c.loop-place.invariant.same

pub work_off-requires-clause-copy_locks : goal.work_off-requires-clause-copy_locks
work_off-requires-clause-copy_locks g c = still_of c.args.copies.now c.args.slot.now.copy_passes.items c.loop-place.slot.copy_passes.items c.requires.copy_locks c.loop-place.invariant.same_copies

pub loop-place-preserved : goal.loop-place-preserved
loop-place-preserved g c =
    let before = c.loop-place.invariant in
    let a : Slot = c.args.slot.now in
    let b : Slot = c.loop-place.slot in
    let d : Slot = c.work_off.new.slot in
    let seat : Drawer = c.next.new.seat in
    let place : ℕ = c.in-Some.place in
    let job : ℕ → Job = λ w. the_job c.args.procs.now c.args.requests.now (length c.args.shards.now) w c.args.config (g.N.Net.carries c.args.net.now) in
    let worked = c.in_ok-work_off.ensures.worked in
    let one : List Worked = worked.0 ∷ [] in
    let draws : seat ≡ record b.seat { drawn = b.seat.drawn ++ place ∷ [] } = drew b.seat seat place c.in-Some.ensures.seat c.in-Some.ensures.some.1 in
    let below : place < length c.args.requests.now = subst (λ (n : ℕ). place < n) c.requires.numbers c.in-Some.ensures.some.0 in
    record {
      same = c.work_off.ensures.same ∙ before.same;
      same_copies = c.work_off.ensures.same_copies ∙ before.same_copies;
      worker = c.work_off.ensures.worker ∙ before.worker;
      seat = same_claims b.seat seat d.seat place c.args.claims.now c.work_off.ensures.seat draws before.seat;
      over = c.in_ok-work_off.ensures.over;
      gated = λ is. c.in_ok-work_off.ensures.gated (before.gated is);
      so_far = works_so_more (job a.worker) a b d seat worked.0 place before.same before.same_copies before.so_far draws below worked.1
          (subst (λ (w : ℕ). Works (job w) (record b { seat = seat }) d one) before.worker worked.2) c.work_off.ensures.seat;
    }

pub returns-clause-worked : goal.returns-clause-worked
returns-clause-worked g c =
    let before = c.loop-place.invariant in
    let so = before.so_far in
    let a : Slot = c.args.slot.now in
    let b : Slot = c.loop-place.slot in
    let seat : Drawer = c.next.new.seat in
    let job : Job = the_job c.args.procs.now c.args.requests.now (length c.args.shards.now) a.worker c.args.config (g.N.Net.carries c.args.net.now) in (
      so.worked,
      works_redrawn job a b seat so.worked so.works,
      works_drawn job a b seat so (ap (λ (r : Round). r.n) before.seat ∙ c.requires.numbers) c.in_default.ensures.seat (sym c.in_default.ensures.none),
    )

pub returns-clause-gated : goal.returns-clause-gated
returns-clause-gated g c = c.loop-place.invariant.gated
