use Rattle.std.proofs.Common.{◌<◌, ◌^◌, length, arith, rules}
use Rattle.coco_net.proofs.MailLemmas.{box_other, few_at, few_set, taken, taken_boxes}
use Rattle.coco_net.proofs.post.take_first.Goals as goal

pub returns-in-Some-clause-few : goal.returns-in-Some-clause-few
returns-in-Some-clause-few c =
    let within : c.args.to < length c.args.boxes.now.items = search rules in
    let bound : length c.in-Some.letters.now.items < 2 ^ 32 = few_at (λ q. q.items) c.args.boxes.now.items c.args.to c.in-Some.letters.now c.requires c.in-Some.ensures.value within in
    let shorter : length c.pop_front.new.self.items < 2 ^ 32 = omega (arith, c.pop_front.ensures.len, bound) in
    few_set (λ q. q.items) c.args.boxes.now.items c.args.to c.pop_front.new.self c.requires shorter

pub returns-in-Some-clause-first : goal.returns-in-Some-clause-first
returns-in-Some-clause-first c =
    let within : c.args.to < length c.args.boxes.now.items = search rules in
    taken_boxes (λ q. q.items) c.args.boxes.now.items c.args.to c.in-Some.letters.now c.pop_front.new.self c.pop_front.result within c.in-Some.ensures.value
    (taken c.pop_front.result c.in-Some.letters.now.items c.pop_front.new.self.items c.pop_front.ensures.items (λ none. search rules))

pub returns-in-Some-clause-others : goal.returns-in-Some-clause-others
returns-in-Some-clause-others c = λ p apart. box_other (λ q. q.items) c.args.boxes.now.items c.args.to p c.pop_front.new.self apart
