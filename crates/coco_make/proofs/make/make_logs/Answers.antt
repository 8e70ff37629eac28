use Rattle.std.proofs.Common.{refl, ◌∙◌}
use Rattle.coco_store.proofs.Naming.{named_at}
use Rattle.coco_log.proofs.Changing.{changes_made, changes_none, changes_then}
use Rattle.coco_make.proofs.StepLemmas.{no_logs, one_more}
use Rattle.coco_make.proofs.make.make_logs.Goals as goal

pub loop-file-init : goal.loop-file-init
loop-file-init g c =
    let host = c.args.host.now in
    record {
      changes = changes_none g.H.Host g.met.H.Host.only_now c.args.files.now host;
      counts = refl;
      made = λ before told. no_logs c.args.kind c.args.files.now before (g.H.Host.reads host) (g.H.Host.may_leave host) told;
    }

pub loop-file-preserved : goal.loop-file-preserved
loop-file-preserved g c =
    let so_far = c.loop-file.invariant in
    let named = named_at c.args.files.now c.loop-file.file-index c.loop-file-test.true in
    let one = changes_made g.H.Host c.args.files.now _ c.loop-file.host c.make.new.host
    named c.make.ensures.moments c.make.ensures.files c.make.ensures.crash c.make.ensures.said in
    record {
      changes = changes_then g.H.Host c.args.files.now c.args.host.now c.loop-file.host c.make.new.host so_far.changes one;
      counts = c.in_ok-make.ensures.counts ∙ so_far.counts;
      made = λ before told. one_more c.in_ok-make.field-0 c.args.kind c.args.files.now c.loop-file.file-index before _ _ _ _ named (so_far.made before told) c.in_ok-make.ensures.log c.in_ok-make.ensures.ok c.make.ensures.crash;
    }

pub returns-in_err-make-clause-changes : goal.returns-in_err-make-clause-changes
returns-in_err-make-clause-changes g c =
    let one = changes_made g.H.Host c.args.files.now _ c.loop-file.host c.make.new.host
    (named_at c.args.files.now c.loop-file.file-index c.loop-file-test.true) c.make.ensures.moments c.make.ensures.files c.make.ensures.crash c.make.ensures.said in
    changes_then g.H.Host c.args.files.now c.args.host.now c.loop-file.host c.make.new.host c.loop-file.invariant.changes one
