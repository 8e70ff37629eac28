use Rattle.coco_types.specs.declared.call.Done.{Done}
use Rattle.coco_ast.specs.Fitting.{Fits}
use Rattle.coco_audit.proofs.Fitting.{all_drop}
use Rattle.coco_value_tests.proofs.audit.verdict_with.Goals as goal

pub verify_of-requires : goal.verify_of-requires
verify_of-requires c = all_drop (λ (d : Done). Fits c.args.procs.now d.call) c.args.first c.in_ok-kept.kept.dones c.in_ok-kept.ensures
