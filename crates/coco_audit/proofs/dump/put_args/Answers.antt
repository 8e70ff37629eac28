use Rattle.std.proofs.Common.{◌∙◌}
use Rattle.coco_audit.proofs.Tokens.{put_argument}
use Rattle.coco_audit.proofs.dump.put_args.Goals as goal

pub loop-place-preserved : goal.loop-place-preserved
loop-place-preserved c = record {
  tokens = put_argument c.args.args.now c.loop-place.place c.argument_at.result c.loop-place.writer.tokens c.put_answer.new.writer.tokens _ c.argument_at.ensures c.in_ok-put_answer.ensures.ok c.loop-place.invariant.tokens;
  before = c.in_ok-put_answer.ensures.before ∙ c.loop-place.invariant.before;
}
