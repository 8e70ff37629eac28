use Rattle.std.proofs.Common.{◌++◌, ap, ◌∙◌}
use Rattle.coco_batches.specs.Answering.{held_text}
use Rattle.coco_batches.proofs.AnswerLemmas.{texts-more}
use Rattle.coco_batches.proofs.answer.texts_of.Goals as goal

pub loop-answer-preserved : goal.loop-answer-preserved
loop-answer-preserved c =
    let dones = c.args.kept.now.dones in
    texts-more dones c.args.answers.now c.loop-answer.answer-index c.answer-item.result c.loop-answer.texts.items c.write_answer.new.out.items
    c.loop-answer-test.true c.loop-answer.invariant (c.in_ok-write_answer.ensures ∙ ap (λ a. c.loop-answer.texts.items ++ held_text dones a) c.answer-item.is)
