use Rattle.std.proofs.Common.{map}
use Rattle.coco_net.proofs.quiet_post.QuietPost.send.Goals as goal

pub invariant_of-self : goal.invariant_of-self
invariant_of-self c = c.put.ensures.kept c.self.inside.since (map (λ q. q.items) c.self.inside.boxes.items) c.self.invariant
