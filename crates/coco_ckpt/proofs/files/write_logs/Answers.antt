use Rattle.std.proofs.Common.{◌∷◌, subst}
use Rattle.std.specs.Prelude.{OnOk}
use Rattle.coco_append.proofs.GainLemmas.{on_both, on_ok}
use Rattle.coco_log.proofs.Changing.{changes_then}
use Rattle.coco_make.proofs.MakeLemmas.{first_changes, rest_changes}
use Rattle.coco_ckpt.proofs.Steps.{empty_logs, log_besides}
use Rattle.coco_ckpt.proofs.files.write_logs.Goals as goal

pub returns-in_err-write_base-clause-changes : goal.returns-in_err-write_base-clause-changes
returns-in_err-write_base-clause-changes g c =
    first_changes g.H.Host c.args.base _ c.args.host.now c.write_base.new.host c.write_base.ensures.changes

pub returns-clause-base : goal.returns-clause-base
returns-clause-base g c =
    let R = g.H.Host.reads in
    let L = g.H.Host.may_leave in
    let mid = c.write_base.new.host in
    let new = c.make_empty_logs.new.host in
    on_ok c.make_empty_logs.result _ _ (λ _.
    let base = c.in_ok-write_base.ensures.base in
    record {
      entries = base.entries;
      is = base.is;
      are = base.are;
      log = log_besides (c.args.layout.now.chief_file ∷ c.args.layout.now.node_files) (L mid) (L new) c.make_empty_logs.ensures.changes.crash _ _ c.args.base (R mid) (R new) c.requires.apart c.make_empty_logs.ensures.changes.files base.log;
    }) c.make_empty_logs.ensures.ok

pub returns-clause-empty : goal.returns-clause-empty
returns-clause-empty g c =
    let R = g.H.Host.reads in
    let L = g.H.Host.may_leave in
    on_ok c.make_empty_logs.result _ _ (λ made. empty_logs c.args.layout.now (R c.write_base.new.host) (R c.make_empty_logs.new.host) (L c.make_empty_logs.new.host) (c.args.layout.now.chief_file ∷ c.args.layout.now.node_files) c.make_empty_logs.ensures.changes.files made) c.make_empty_logs.ensures.ok

pub returns-clause-changes : goal.returns-clause-changes
returns-clause-changes g c =
    let mid = c.write_base.new.host in
    let new = c.make_empty_logs.new.host in
    changes_then g.H.Host _ c.args.host.now mid new (first_changes g.H.Host c.args.base _ c.args.host.now mid c.write_base.ensures.changes)
    (rest_changes g.H.Host c.args.base _ mid new c.make_empty_logs.ensures.changes)
