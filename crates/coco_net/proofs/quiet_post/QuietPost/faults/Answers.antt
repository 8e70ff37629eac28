use Rattle.std.proofs.Common.{ap}
use Rattle.coco_net.specs.Mail.{MailState}
use Rattle.coco_net.proofs.quiet_post.QuietPost.faults.Goals as goal

pub returns : goal.returns
returns c = ap (λ (s : MailState). s.faults) c.self.view_is
