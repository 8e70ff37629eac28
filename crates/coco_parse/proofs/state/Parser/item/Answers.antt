use Rattle.coco_parse.specs.Machine.{Items}
use Rattle.coco_parse.specs.Steps.{behind_item}
use Rattle.coco_parse.proofs.Steps.{stops_word, exit_same}
use Rattle.coco_parse.proofs.state.Parser.item.Goals as goal

pub returns-in_default-clause-reads : goal.returns-in_default-clause-reads
returns-in_default-clause-reads c ts ps s = c.unexpected.ensures (Items ts ps) s (stops_word _ _ c.args.word.now c.requires (c.in_default.ensures ts ps))

pub returns-in_err-advance-clause-reads : goal.returns-in_err-advance-clause-reads
returns-in_err-advance-clause-reads c ts ps s = exit_same _ _ _ _ c.from_residual.ensures.1 (c.in_err-advance.ensures.reads (Items ts ps) (behind_item c.in-Some.item ts ps) (c.in-Some.ensures ts ps) s)

pub returns-clause-reads : goal.returns-clause-reads
returns-clause-reads c ts ps s = c.in_ok-advance.ensures.reads (Items ts ps) (behind_item c.in-Some.item ts ps) (c.in-Some.ensures ts ps) s
