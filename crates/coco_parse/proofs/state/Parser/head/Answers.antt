use Rattle.std.proofs.Common.{Some, None, sym, ap, ◌∙◌}
use Rattle.coco_parse.specs.Machine.{Within, step}
use Rattle.coco_parse.specs.Steps.{behind_head}
use Rattle.coco_parse.proofs.Choices.{block_closed}
use Rattle.coco_parse.proofs.Steps.{stops_end, stops_word, exit_same}
use Rattle.coco_parse.proofs.state.Parser.head.Goals as goal

pub returns-in_default-clause-reads : goal.returns-in_default-clause-reads
returns-in_default-clause-reads c ss k s = c.unexpected.ensures (Within ss k) s (stops_end _ _ (sym c.in_default.ensures.word) (λ i. cc i.2))

pub returns-in_err-advance-clause-reads : goal.returns-in_err-advance-clause-reads
returns-in_err-advance-clause-reads c ss k s = exit_same _ _ _ _ c.from_residual.ensures.1 (c.in_err-advance.ensures.reads (Within ss k) (behind_head None ss k) (ap (step (Within ss k)) (block_closed c.in-Some.word (sym c.closes_block.ensures ∙ c.if-closes_block.true))) s)

pub returns-then-closes_block-clause-reads : goal.returns-then-closes_block-clause-reads
returns-then-closes_block-clause-reads c ss k s = c.in_ok-advance.ensures.reads (Within ss k) (behind_head None ss k) (ap (step (Within ss k)) (block_closed c.in-Some.word (sym c.closes_block.ensures ∙ c.if-closes_block.true))) s

pub returns-in_default-head_of-clause-reads : goal.returns-in_default-head_of-clause-reads
returns-in_default-head_of-clause-reads c ss k s = c.unexpected-in_default-head_of.ensures (Within ss k) s (stops_word _ _ c.in-Some.word (sym c.in-Some.ensures.word) (c.in_default-head_of.ensures.heads ss k))

pub returns-in_err-advance-2-clause-reads : goal.returns-in_err-advance-2-clause-reads
returns-in_err-advance-2-clause-reads c ss k s = exit_same _ _ _ _ c.from_residual-in_err-advance-2.ensures.1 (c.in_err-advance-2.ensures.reads (Within ss k) (behind_head (Some c.in-Some-head_of.head) ss k) (c.in-Some-head_of.ensures.heads ss k) s)

pub returns-clause-reads : goal.returns-clause-reads
returns-clause-reads c ss k s = c.in_ok-advance-2.ensures.reads (Within ss k) (behind_head (Some c.in-Some-head_of.head) ss k) (c.in-Some-head_of.ensures.heads ss k) s

pub returns-clause-refuses : goal.returns-clause-refuses
returns-clause-refuses c e = c.in_ok-advance-2.ensures.refuses ∙ c.in-Some-head_of.ensures.refuse e
