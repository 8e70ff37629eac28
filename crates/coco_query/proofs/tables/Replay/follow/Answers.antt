use Rattle.std.proofs.lemmas.Result.{on_ok_weaker}
use Rattle.coco_query.proofs.tables.Replay.follow.Goals as goal

pub run_on-requires-clause-held : goal.run_on-requires-clause-held
run_on-requires-clause-held c = (c.args.layout.now, c.requires.alone, c.requires.held)

pub returns-then-done-epoch-clause-held : goal.returns-then-done-epoch-clause-held
returns-then-done-epoch-clause-held c = on_ok_weaker c.run_on.result (λ hold. hold c.args.layout.now c.requires.alone c.requires.held) c.run_on.ensures.held
