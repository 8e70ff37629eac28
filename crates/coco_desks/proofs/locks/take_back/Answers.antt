use Rattle.std.proofs.Common.{◌++◌, length, ap, arith}
use Rattle.coco_desks.proofs.ClosingLemmas.{all_moved, nothing, one_moved}
use Rattle.coco_desks.proofs.StartingLemmas.{all_back, machines_same}
use Rattle.coco_desks.proofs.locks.take_back.Goals as goal

pub close_all-requires-clause-back : goal.close_all-requires-clause-back
close_all-requires-clause-back g c = let s = c.requires.started in all_back s.0 s.2 c.args.started.locks.items c.args.started.trays.items s.3

pub push_reserved-requires : goal.push_reserved-requires
push_reserved-requires g c = omega (arith, c.requires.room, c.close_all.ensures.room, c.close_all.ensures.count)

pub loop-machine-init : goal.loop-machine-init
loop-machine-init g c =
    let same = c.into_iter-machine-iterator.ensures.into_iter_gives in
    let rest = ap (λ i. i.rest.items) same in
    let count = ap length rest in
    let ok = c.args.rest.rest.ok in
    record {
      items = ap (λ ys. c.push_reserved.new.self.items ++ ys) rest;
      room = omega (arith, c.requires.room, c.close_all.ensures.room, c.close_all.ensures.count, c.push_reserved.ensures.len, c.push_reserved.ensures.capacity, count, ok.0);
    }

pub push_reserved-requires-in-loop-machine : goal.push_reserved-requires-in-loop-machine
push_reserved-requires-in-loop-machine g c = let n = ap length c.in-Some.ensures.steps.0 in let room = c.loop-machine.invariant.room in omega (arith, n, room)

pub loop-machine-preserved : goal.loop-machine-preserved
loop-machine-preserved g c =
    let n = ap length c.in-Some.ensures.steps.0 in
    let room = c.loop-machine.invariant.room in
    record {
      items = one_moved c.loop-machine.ended.machines.items c.push_reserved-in-loop-machine.new.self.items c.loop-machine.machine-iterator.rest.items c.next.new.self.rest.items (c.push_reserved.new.self.items ++ c.args.rest.rest.items) c.in-Some.machine
          c.push_reserved-in-loop-machine.ensures.items c.in-Some.ensures.steps.0 c.loop-machine.invariant.items;
      room = omega (arith, n, room, c.push_reserved-in-loop-machine.ensures.len, c.push_reserved-in-loop-machine.ensures.capacity);
    }

pub returns : goal.returns
returns g c = λ workers firsts some are.
    let none = c.in-None.ensures.steps.0 in
    let ok = c.loop-machine.machine-iterator.rest.ok in
    all_moved c.loop-machine.ended.machines.items c.loop-machine.machine-iterator.rest.items c.push_reserved.new.self.items c.close_all.new.ended.machines.items c.args.ended.machines.items firsts c.args.rest.rest.items c.args.machine
    (nothing c.loop-machine.machine-iterator.rest.items (omega (arith, none, ok.0))) c.loop-machine.invariant.items c.push_reserved.ensures.items
    (machines_same g.M.Machine.answer_to g.M.Machine.state_after workers some firsts c.args.started.locks.items c.args.started.trays.items are
    c.args.ended.machines.items c.args.ended.journals.items c.close_all.new.ended.machines.items c.close_all.new.ended.journals.items c.close_all.ensures.ended) c.requires.none
