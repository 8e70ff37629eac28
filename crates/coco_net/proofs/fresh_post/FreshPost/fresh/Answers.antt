use Rattle.std.proofs.Common.{◌∙◌, ap, sym}
use Rattle.std.proofs.Math.Seq.{drop-append_seam}
use Rattle.coco_net.specs.Mail.{MailState, fresh}
use Rattle.coco_net.proofs.fresh_post.FreshPost.fresh.Goals as goal

pub returns : goal.returns
returns c = c.as_slice.ensures.value ∙ sym (drop-append_seam c.self.inside.before.items c.self.inside.fresh.items) ∙ ap (λ (s : MailState). fresh s) c.self.view_is
