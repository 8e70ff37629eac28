use Rattle.std.proofs.Common.{length, refl, sym, ap, subst, arith}
use Rattle.coco_desks.specs.Locking.{AreBack, AreEnded}
use Rattle.coco_desks.proofs.ClosingLemmas.{as_many_back, ended_first, ended_none, first_back, one_longer}
use Rattle.coco_desks.proofs.locks.close_all.Goals as goal

pub loop-lock-init : goal.loop-lock-init
loop-lock-init g c =
    let locks = c.into_iter-lock-iterator.ensures.into_iter_gives.0 in
    let trays = c.into_iter-trays.ensures.rest in
    record {
      back = subst (λ ls. AreBack ls c.into_iter-trays.result.rest.items) (sym locks) (subst (λ ts. AreBack c.args.locks.items ts) (sym trays) c.requires.back);
      machines = let n = ap length locks in let ok = c.args.locks.ok.0 in let room = c.requires.machines in omega (arith, n, ok, room);
      journals = let n = ap length locks in let ok = c.args.locks.ok.0 in let room = c.requires.journals in omega (arith, n, ok, room);
      room = refl;
      count = let n = ap length locks in let ok = c.args.locks.ok.0 in omega (arith, n, ok);
      ended = λ ms js are. subst (λ ts. AreEnded g.M.Machine.answer_to g.M.Machine.state_after ts c.args.ended.now.machines.items c.args.ended.now.journals.items ms js) trays are;
    }

pub unreachable-requires : goal.unreachable-requires
unreachable-requires g c =
    let many = as_many_back c.loop-lock.lock-iterator.rest.items c.loop-lock.trays.rest.items c.loop-lock.invariant.back in
    let n = ap length c.in-Some.ensures.steps.0 in
    let none = c.in_default.ensures.cases in
    let ok = c.loop-lock.trays.rest.ok in
    omega (arith, many, n, none.0, ok.0)

pub close-requires-clause-lock : goal.close-requires-clause-lock
close-requires-clause-lock g c = (first_back c.in-Some.lock c.in-Some-next.tray c.next.new.self.rest.items c.loop-lock.lock-iterator.rest.items c.next-in-loop-lock.new.self.rest.items c.loop-lock.trays.rest.items c.in-Some.ensures.steps.0 c.in-Some-next.ensures.items c.loop-lock.invariant.back).0.locks

pub close-requires-clause-all : goal.close-requires-clause-all
close-requires-clause-all g c = (first_back c.in-Some.lock c.in-Some-next.tray c.next.new.self.rest.items c.loop-lock.lock-iterator.rest.items c.next-in-loop-lock.new.self.rest.items c.loop-lock.trays.rest.items c.in-Some.ensures.steps.0 c.in-Some-next.ensures.items c.loop-lock.invariant.back).0.all

pub keep_closed-requires-clause-machines : goal.keep_closed-requires-clause-machines
keep_closed-requires-clause-machines g c = let n = ap length c.in-Some.ensures.steps.0 in let room = c.loop-lock.invariant.machines in omega (arith, n, room)

pub keep_closed-requires-clause-journals : goal.keep_closed-requires-clause-journals
keep_closed-requires-clause-journals g c = let n = ap length c.in-Some.ensures.steps.0 in let room = c.loop-lock.invariant.journals in omega (arith, n, room)

pub loop-lock-preserved : goal.loop-lock-preserved
loop-lock-preserved g c =
    let n = ap length c.in-Some.ensures.steps.0 in
    let inv = c.loop-lock.invariant in
    let gain = c.keep_closed.ensures in
    let new = c.keep_closed.new.ended in
    let machines = one_longer c.close.result.machine c.loop-lock.ended.machines new.machines gain.machines in
    let journals = one_longer c.close.result.journal c.loop-lock.ended.journals new.journals gain.journals in
    record {
      back = (first_back c.in-Some.lock c.in-Some-next.tray c.next.new.self.rest.items c.loop-lock.lock-iterator.rest.items c.next-in-loop-lock.new.self.rest.items c.loop-lock.trays.rest.items c.in-Some.ensures.steps.0 c.in-Some-next.ensures.items c.loop-lock.invariant.back).1;
      machines = omega (arith, n, inv.machines, machines.0, machines.1);
      journals = omega (arith, n, inv.journals, journals.0, journals.1);
      room = omega (arith, inv.room, machines.1);
      count = omega (arith, n, inv.count, machines.0);
      ended = λ ms js are. inv.ended ms js
          (ended_first g.M.Machine.answer_to g.M.Machine.state_after c.in-Some-next.tray c.next-in-loop-lock.new.self.rest.items c.loop-lock.trays.rest.items c.close.result.machine c.close.result.journal
          c.loop-lock.ended.machines.items new.machines.items ms c.loop-lock.ended.journals.items new.journals.items js c.in-Some-next.ensures.items
          (record { replays = c.close.ensures.machine; passes = c.close.ensures.passes; sized = c.close.ensures.sized }) gain.machines.items gain.journals.items are);
    }

pub returns-clause-room : goal.returns-clause-room
returns-clause-room g c = c.loop-lock.invariant.room

pub returns-clause-count : goal.returns-clause-count
returns-clause-count g c = let count = c.loop-lock.invariant.count in let none = c.in-None.ensures.steps.0 in let ok = c.loop-lock.lock-iterator.rest.ok in omega (arith, count, none, ok.0)

pub returns-clause-ended : goal.returns-clause-ended
returns-clause-ended g c =
    let many = as_many_back c.loop-lock.lock-iterator.rest.items c.loop-lock.trays.rest.items c.loop-lock.invariant.back in
    let none = c.in-None.ensures.steps.0 in
    let ok = c.loop-lock.lock-iterator.rest.ok in
    c.loop-lock.invariant.ended c.loop-lock.ended.machines.items c.loop-lock.ended.journals.items
    (ended_none g.M.Machine.answer_to g.M.Machine.state_after c.loop-lock.trays.rest.items c.loop-lock.ended.machines.items c.loop-lock.ended.journals.items (omega (arith, many, none, ok.0)))
