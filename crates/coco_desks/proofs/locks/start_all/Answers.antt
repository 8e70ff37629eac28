use Rattle.std.proofs.Common.{length, ap, arith}
use Rattle.coco_desks.proofs.ClosingLemmas.{none_yet, one_fewer}
use Rattle.coco_desks.proofs.StartingLemmas.{all_again, started_all, started_more, started_none}
use Rattle.coco_desks.proofs.locks.start_all.Goals as goal

pub loop-machine-init : goal.loop-machine-init
loop-machine-init g c =
    let rest = c.into_iter-rest.ensures.rest in
    let count = ap length rest in
    let ok = c.args.machines.ok in
    let len = c.len.ensures in
    let locks = c.in-Ok.ensures.locks in
    let trays = c.in-Ok.ensures.trays in
    let no_locks = none_yet c.len.result c.in-Ok.started.locks locks in
    let no_trays = none_yet c.len.result c.in-Ok.started.trays trays in
    record {
      has = started_none c.args.workers c.args.machines.items c.into_iter-rest.result.rest.items c.in-Ok.started.locks.items c.in-Ok.started.trays.items rest locks.0 trays.0;
      count = omega (arith, no_locks, count, ok.0);
      room = omega (arith, locks.1, len);
      trays = omega (arith, no_locks, no_trays);
      tray_room = omega (arith, trays.1, len);
    }

pub push_reserved-requires : goal.push_reserved-requires
push_reserved-requires g c = let inv = c.loop-machine.invariant in let n = one_fewer c.loop-machine.rest.rest.items c.next.new.self.rest.items c.in-Some.machine c.in-Some.ensures.items in omega (arith, n, inv.count, inv.room)

pub push_reserved-requires-in-Ok-start_one : goal.push_reserved-requires-in-Ok-start_one
push_reserved-requires-in-Ok-start_one g c = let inv = c.loop-machine.invariant in let n = one_fewer c.loop-machine.rest.rest.items c.next.new.self.rest.items c.in-Some.machine c.in-Some.ensures.items in omega (arith, n, inv.count, inv.trays, inv.tray_room)

pub loop-machine-smaller : goal.loop-machine-smaller
loop-machine-smaller g c = let n = one_fewer c.loop-machine.rest.rest.items c.next.new.self.rest.items c.in-Some.machine c.in-Some.ensures.items in omega (arith, n)

pub loop-machine-preserved : goal.loop-machine-preserved
loop-machine-preserved g c =
    let inv = c.loop-machine.invariant in
    let n = one_fewer c.loop-machine.rest.rest.items c.next.new.self.rest.items c.in-Some.machine c.in-Some.ensures.items in
    let locks = c.push_reserved.ensures in
    let trays = c.push_reserved-in-Ok-start_one.ensures in
    record {
      has = started_more c.args.workers c.args.machines.items c.loop-machine.rest.rest.items c.loop-machine.started.locks.items c.loop-machine.started.trays.items inv.has c.in-Some.machine c.next.new.self.rest.items c.in-Ok-start_one.lock
          c.in-Ok-start_one.tray c.push_reserved.new.self.items c.push_reserved-in-Ok-start_one.new.self.items c.in-Some.ensures.items c.in-Ok-start_one.ensures.started locks.items trays.items;
      count = omega (arith, n, inv.count, locks.len);
      room = omega (arith, locks.capacity, inv.room);
      trays = omega (arith, inv.trays, locks.len, trays.len);
      tray_room = omega (arith, trays.capacity, inv.tray_room);
    }

pub take_back-requires-clause-started : goal.take_back-requires-clause-started
take_back-requires-clause-started g c = (c.args.workers, c.requires, c.loop-machine.invariant.has.firsts, c.loop-machine.invariant.has.are)

pub take_back-requires-clause-room : goal.take_back-requires-clause-room
take_back-requires-clause-room g c =
    let inv = c.loop-machine.invariant in
    let n = one_fewer c.loop-machine.rest.rest.items c.next.new.self.rest.items c.in-Some.machine c.in-Some.ensures.items in
    let ok = c.next.new.self.rest.ok in
    let room = c.in-Ok.ensures.machines in
    let none = none_yet c.len.result c.in-Ok.ended.machines room in
    let len = c.len.ensures in
    omega (arith, n, ok.0, none, room.1, inv.count, len)

pub take_back-requires-clause-journals : goal.take_back-requires-clause-journals
take_back-requires-clause-journals g c =
    let inv = c.loop-machine.invariant in
    let room = c.in-Ok.ensures.journals in
    let none = none_yet c.len.result c.in-Ok.ended.journals room in
    let len = c.len.ensures in
    omega (arith, none, room.1, inv.count, len)

pub returns-in-Err-clause-back : goal.returns-in-Err-clause-back
returns-in-Err-clause-back g c =
    all_again c.args.workers c.args.machines.items c.loop-machine.rest.rest.items c.loop-machine.started.locks.items c.loop-machine.started.trays.items c.loop-machine.invariant.has c.in-Some.machine c.in-Err.machine c.next.new.self.rest.items
    c.take_back.result.items c.in-Some.ensures.items c.in-Err.ensures.back (c.take_back.ensures c.args.workers c.loop-machine.invariant.has.firsts c.requires c.loop-machine.invariant.has.are)

pub returns-clause-started : goal.returns-clause-started
returns-clause-started g c =
    let none = c.in_default-next.ensures.cases in
    let ok = c.loop-machine.rest.rest.ok in
    started_all c.args.workers c.args.machines.items c.loop-machine.rest.rest.items c.loop-machine.started.locks.items c.loop-machine.started.trays.items c.loop-machine.invariant.has (omega (arith, none.0, ok.0))
