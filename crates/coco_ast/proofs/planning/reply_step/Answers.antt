use Rattle.coco_ast.specs.Views.{expression_of}
use Rattle.coco_ast.proofs.PlanLemmas.{reply_step, adds_alone}
use Rattle.coco_ast.proofs.planning.reply_step.Goals as goal

pub returns-clause-step : goal.returns-clause-step
returns-clause-step c = reply_step c.term_of.new.slots c.term_of.new.terms.items c.in_ok-value.value (expression_of c.args.value.now) c.in_ok-value.ensures.stands

pub returns-clause-adds : goal.returns-clause-adds
returns-clause-adds c = adds_alone (adds_alone c.in_ok-value.ensures.adds)
