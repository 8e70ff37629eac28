use Rattle.std.proofs.Common.{◌≡◌, ℕ, ◌≤◌, List, length, inl, inr, refl, sym, ap, subst, ◌∙◌}
use Rattle.std.proofs.lemmas.Result.{err_from_is_err_and}
use Rattle.coco_entry.specs.declared.layout.LayoutEntry.{LayoutEntry}
use Rattle.coco_entry.specs.Layouts.{layout_bytes}
use Rattle.coco_log.specs.Grammar.{most_entry_bytes}
use Rattle.coco_store.specs.Entries.{layouts_file}
use Rattle.coco_append.specs.Gaining.{HasLogsOf, HasStore}
use Rattle.coco_append.proofs.GainLemmas.{at_err, at_rest, gained, nothing_gained, on_err, same_files, same_left, stands_grown, stands_on}
use Rattle.coco_append.proofs.SwitchLemmas.{body_is, layout_grows, layout_short, logs_rest}
use Rattle.coco_append.proofs.layouts.add_layout.Goals as goal

pub returns-in_err-put_layout-clause-gains : goal.returns-in_err-put_layout-clause-gains
returns-in_err-put_layout-clause-gains g c before after go same rests =
    let host = c.args.host.now in
    let p = err_from_is_err_and c.from_residual.result c.from_residual.ensures.1 in
    nothing_gained g.H.Host c.from_residual.result (HasLogsOf (g.H.Host.may_leave host)) (HasStore after) g.met.H.Host.only_now host p.0 p.1
    (logs_rest before after (g.H.Host.reads host) (g.H.Host.may_leave host) (g.met.H.Host.reads_left host) rests)

pub returns-in_err-put_layout-clause-err : goal.returns-in_err-put_layout-clause-err
returns-in_err-put_layout-clause-err g c = at_err c.from_residual.result _ (inl (refl, refl))

pub returns-in_err-put_layout-clause-files : goal.returns-in_err-put_layout-clause-files
returns-in_err-put_layout-clause-files g c = same_files layouts_file (g.H.Host.reads c.args.host.now)

pub returns-in_err-put_layout-clause-crash : goal.returns-in_err-put_layout-clause-crash
returns-in_err-put_layout-clause-crash g c = same_left layouts_file (g.H.Host.may_leave c.args.host.now)

pub append-requires-clause-short : goal.append-requires-clause-short
append-requires-clause-short g c =
    let entry : LayoutEntry = record { layout = c.args.layout.now; keep = c.args.keep; base_file = c.args.base_file } in
    let is = body_is _ _ c.as_slice.result.now (layout_bytes entry) c.new-body.ensures.items c.in_ok-put_layout.ensures.ok c.as_slice.ensures.value in
    subst (λ (l : List ℕ). length l ≤ most_entry_bytes) (sym is) (layout_short entry c.requires.is c.requires.limits c.requires.text)

pub append-requires-clause-rest : goal.append-requires-clause-rest
append-requires-clause-rest g c = at_rest c.args.log.now (g.H.Host.reads c.args.host.now) (g.H.Host.may_leave c.args.host.now) c.requires.stands

pub returns-clause-gains : goal.returns-clause-gains
returns-clause-gains g c before after go same rests =
    let entry : LayoutEntry = record { layout = c.args.layout.now; keep = c.args.keep; base_file = c.args.base_file } in
    let is = body_is _ _ c.as_slice.result.now (layout_bytes entry) c.new-body.ensures.items c.in_ok-put_layout.ensures.ok c.as_slice.ensures.value in
    let host = c.args.host.now in
    let left = g.H.Host.may_leave host in
    gained g.H.Host c.append.result (HasLogsOf left) (HasStore after) host c.append.new.host c.args.log.now c.append.new.self c.as_slice.result.now
    (logs_rest before after (g.H.Host.reads host) left (g.met.H.Host.reads_left host) rests) c.requires.stands
    (layout_grows before after left go rests.left c.args.log.now c.as_slice.result.now c.requires.log (is ∙ ap layout_bytes (sym same))) g.met.H.Host.seen_now
    c.append.ensures.moments c.append.ensures.ok c.append.ensures.log c.append.ensures.crash c.append.ensures.said

pub returns-clause-log : goal.returns-clause-log
returns-clause-log g c =
    let entry : LayoutEntry = record { layout = c.args.layout.now; keep = c.args.keep; base_file = c.args.base_file } in
    let is : c.as_slice.result.now ≡ layout_bytes entry = body_is _ _ c.as_slice.result.now (layout_bytes entry) c.new-body.ensures.items c.in_ok-put_layout.ensures.ok c.as_slice.ensures.value in
    rw is at c.append.ensures.log

pub returns-clause-stands : goal.returns-clause-stands
returns-clause-stands g c = stands_grown c.append.result c.args.log.now c.append.new.self c.as_slice.result.now _ _ _ _ c.append.ensures.files c.requires.stands c.append.ensures.ok

pub returns-clause-err : goal.returns-clause-err
returns-clause-err g c = on_err c.append.result _ _ inr c.append.ensures.spent

pub returns-clause-others : goal.returns-clause-others
returns-clause-others g c other apart stands = stands_on other c.args.log.now.file _ _ _ _ (λ e. apart (e ∙ c.requires.log.in_file)) c.append.ensures.files c.append.ensures.crash stands
