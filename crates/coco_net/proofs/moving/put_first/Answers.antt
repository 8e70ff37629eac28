use Rattle.std.proofs.Common.{◌≡◌, ◌<◌, ◌≤◌, [], ap, arith, deque_capacity, get_or, length, map, rules}
use Rattle.coco_net.proofs.RoomLemmas.{first_in, none_in, set_stays, was_here}
use Rattle.coco_net.proofs.moving.put_first.Goals as goal

pub push_front_reserved-requires : goal.push_front_reserved-requires
push_front_reserved-requires c =
    let within : c.args.posted.to < length c.args.boxes.now.items = search rules in
    let few : length (get_or (map (λ q. q.items) c.args.boxes.now.items) c.args.posted.to []) < get_or (map (λ q. deque_capacity q) c.args.boxes.now.items) c.args.posted.to 0 = c.requires within in
    let count : get_or (map (λ q. q.items) c.args.boxes.now.items) c.args.posted.to [] ≡ c.in-Some.letters.now.items = was_here (λ q. q.items) c.args.boxes.now.items c.args.posted.to c.in-Some.letters.now [] within c.in-Some.ensures.value in
    let room : get_or (map (λ q. deque_capacity q) c.args.boxes.now.items) c.args.posted.to 0 ≡ deque_capacity c.in-Some.letters.now = was_here (λ q. deque_capacity q) c.args.boxes.now.items c.args.posted.to c.in-Some.letters.now 0 within c.in-Some.ensures.value in
    omega (arith, few, ap length count, room)

pub returns-in-Some-clause-boxes : goal.returns-in-Some-clause-boxes
returns-in-Some-clause-boxes c = λ these were.
    let within : c.args.posted.to < length c.args.boxes.now.items = search rules in
    first_in (λ q. q.items) c.args.boxes.now.items c.in-Some.letters.now c.push_front_reserved.new.self these c.args.posted within c.in-Some.ensures.value c.push_front_reserved.ensures.items were

pub returns-in-Some-clause-room : goal.returns-in-Some-clause-room
returns-in-Some-clause-room c =
    let within : c.args.posted.to < length c.args.boxes.now.items = search rules in
    set_stays (λ q. deque_capacity q) c.args.boxes.now.items c.args.posted.to c.in-Some.letters.now c.push_front_reserved.new.self within c.in-Some.ensures.value c.push_front_reserved.ensures.capacity

pub returns-in-None-clause-boxes : goal.returns-in-None-clause-boxes
returns-in-None-clause-boxes c = λ these were.
    let out : length c.args.boxes.now.items ≤ c.args.posted.to = search rules in
    none_in (λ q. q.items) c.args.boxes.now.items these c.args.posted out were
