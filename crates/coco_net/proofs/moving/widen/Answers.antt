use Rattle.std.proofs.Common.{◌≡◌, ◌<◌, arith, deque_capacity, get_or, length, map, rules}
use Rattle.std.proofs.Math.ListN.{set}
use Rattle.coco_net.proofs.RoomLemmas.{grown, set_here, set_stays}
use Rattle.coco_net.proofs.moving.widen.Goals as goal

pub returns-in_err-reserve-in-Some-clause-same : goal.returns-in_err-reserve-in-Some-clause-same
returns-in_err-reserve-in-Some-clause-same c =
    let within : c.args.place < length c.args.boxes.now.items = search rules in
    set_stays (λ q. q.items) c.args.boxes.now.items c.args.place c.in-Some.letters.now c.reserve.new.self within c.in-Some.ensures.value c.reserve.ensures.items

pub returns-in_err-reserve-in-Some-clause-wider : goal.returns-in_err-reserve-in-Some-clause-wider
returns-in_err-reserve-in-Some-clause-wider c =
    let within : c.args.place < length c.args.boxes.now.items = search rules in
    grown (λ q. deque_capacity q) c.args.boxes.now.items c.args.place c.in-Some.letters.now c.reserve.new.self within c.in-Some.ensures.value c.reserve.ensures.capacity

pub returns-in_ok-reserve-in-Some-clause-same : goal.returns-in_ok-reserve-in-Some-clause-same
returns-in_ok-reserve-in-Some-clause-same c =
    let within : c.args.place < length c.args.boxes.now.items = search rules in
    set_stays (λ q. q.items) c.args.boxes.now.items c.args.place c.in-Some.letters.now c.reserve.new.self within c.in-Some.ensures.value c.reserve.ensures.items

pub returns-in_ok-reserve-in-Some-clause-wider : goal.returns-in_ok-reserve-in-Some-clause-wider
returns-in_ok-reserve-in-Some-clause-wider c =
    let within : c.args.place < length c.args.boxes.now.items = search rules in
    grown (λ q. deque_capacity q) c.args.boxes.now.items c.args.place c.in-Some.letters.now c.reserve.new.self within c.in-Some.ensures.value c.reserve.ensures.capacity

pub returns-in_ok-reserve-in-Some-clause-room : goal.returns-in_ok-reserve-in-Some-clause-room
returns-in_ok-reserve-in-Some-clause-room c = λ within.
    let here : get_or (map (λ q. deque_capacity q) (set c.args.boxes.now.items c.args.place c.reserve.new.self)) c.args.place 0 ≡ deque_capacity c.reserve.new.self =
    set_here (λ q. deque_capacity q) c.args.boxes.now.items c.args.place c.reserve.new.self 0 within in
    omega (arith, here, c.in_ok-reserve-in-Some.ensures.ok)
