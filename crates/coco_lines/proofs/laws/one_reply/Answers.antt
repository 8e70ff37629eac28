use Rattle.coco_lines.proofs.ReplyLemmas.{all_ordered, all_replies}
use Rattle.coco_lines.proofs.laws.one_reply.Goals as goal

pub returns : goal.returns
returns c = record { ordered = all_ordered; replies = all_replies }
