use Rattle.std.proofs.Common.{sym, subst}
use Rattle.coco_types.specs.declared.call.Done.{Done}
use Rattle.coco_ast.specs.Fitting.{Fits}
use Rattle.coco_audit.specs.Differing.{AllFit}
use Rattle.coco_audit.proofs.Fitting.{all_kept}
use Rattle.coco_value_tests.proofs.audit.keep.Goals as goal

pub returns : goal.returns
returns c =
    let before = subst (AllFit c.args.procs.now) (sym c.in_ok-reserve.ensures.dones) c.requires.all in
    subst (AllFit c.args.procs.now) (sym c.add.ensures.dones)
    (all_kept (λ (d : Done). Fits c.args.procs.now d.call) _ _ c.args.done before c.requires.fits)
