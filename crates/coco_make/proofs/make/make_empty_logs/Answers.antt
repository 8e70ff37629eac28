use Rattle.std.proofs.Common.{List, ℕ, length, subst}
use Rattle.coco_append.proofs.GainLemmas.{on_ok}
use Rattle.coco_store.specs.Entries.{prepared_kind}
use Rattle.coco_log.specs.Changes.{ChangesOnly}
use Rattle.coco_make.specs.Steps.{HaveLogs}
use Rattle.coco_make.proofs.MakeLemmas.{empty_made, first_changes, rest_changes}
use Rattle.coco_log.proofs.Changing.{changes_then}
use Rattle.coco_make.proofs.make.make_empty_logs.Goals as goal

pub returns-in_err-make_logs-clause-changes : goal.returns-in_err-make_logs-clause-changes
returns-in_err-make_logs-clause-changes g c =
    rest_changes g.H.Host c.args.layout.now.chief_file c.args.layout.now.node_files c.args.host.now c.make_logs.new.host
    (subst (λ (l : List ℕ). ChangesOnly g.H.Host l c.args.host.now c.make_logs.new.host) c.as_slice.ensures c.make_logs.ensures.changes)

pub returns-clause-ok : goal.returns-clause-ok
returns-clause-ok g c =
    let R = g.H.Host.reads in
    let L = g.H.Host.may_leave in
    on_ok c.make_logs-2.result _ _ (λ goes before told.
    let nodes = subst (λ (l : List ℕ). HaveLogs prepared_kind l (length l) before (R c.make_logs.new.host) (L c.make_logs.new.host)) c.as_slice.ensures (c.in_ok-make_logs.ensures.ok before told) in
    empty_made c.args.layout.now c.requires before (R c.make_logs.new.host) (R c.make_logs-2.new.host) (L c.make_logs.new.host) (L c.make_logs-2.new.host) nodes (goes nodes.files nodes.are) c.make_logs-2.ensures.changes.crash)
    c.make_logs-2.ensures.ok

pub returns-clause-changes : goal.returns-clause-changes
returns-clause-changes g c =
    let chief = c.args.layout.now.chief_file in
    let nodes = c.args.layout.now.node_files in
    let first = c.args.host.now in
    let mid = c.make_logs.new.host in
    let new = c.make_logs-2.new.host in
    let one = rest_changes g.H.Host chief nodes first mid (subst (λ (l : List ℕ). ChangesOnly g.H.Host l first mid) c.as_slice.ensures c.make_logs.ensures.changes) in
    changes_then g.H.Host _ first mid new one (first_changes g.H.Host chief nodes mid new c.make_logs-2.ensures.changes)
