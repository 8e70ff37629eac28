use Rattle.std.proofs.Common.{◌<◌, ◌^◌, length, arith, rules}
use Rattle.coco_net.proofs.MailLemmas.{few_at}
use Rattle.coco_net.proofs.post.count.Goals as goal

pub overflow_cast-result : goal.overflow_cast-result
overflow_cast-result c =
    let bound : length c.in-Some.letters.now.items < 2 ^ 32 = few_at (λ q. q.items) c.args.boxes.now c.args.to c.in-Some.letters.now c.requires (search rules) (search rules) in
    omega (arith, bound)
