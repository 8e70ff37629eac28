use Rattle.std.proofs.Common.{◌≡◌, inl, refl}
use Rattle.std.proofs.lemmas.Result.{err_from_is_err_and}
use Rattle.coco_entry.specs.declared.prepared.Prepared.{Prepared}
use Rattle.coco_entry.specs.Rows.{prepared_bytes}
use Rattle.coco_store.specs.Laws.{with_prepared}
use Rattle.coco_append.specs.Gaining.{HasStore}
use Rattle.coco_append.proofs.GainLemmas.{at_err, nothing_gained, prepared_grows, same_files, same_left}
use Rattle.coco_append.proofs.adding.add_prepared.Goals as goal

pub returns-in_err-put_prepared-clause-gains : goal.returns-in_err-put_prepared-clause-gains
returns-in_err-put_prepared-clause-gains g c before n rests of may =
    let p = err_from_is_err_and c.from_residual.result c.from_residual.ensures.1 in
    nothing_gained g.H.Host c.from_residual.result (HasStore before) _ g.met.H.Host.only_now c.args.host.now p.0 p.1 rests

pub returns-in_err-put_prepared-clause-err : goal.returns-in_err-put_prepared-clause-err
returns-in_err-put_prepared-clause-err g c = at_err c.from_residual.result _ (inl (refl, refl))

pub returns-in_err-put_prepared-clause-files : goal.returns-in_err-put_prepared-clause-files
returns-in_err-put_prepared-clause-files g c = same_files c.args.log.now.file (g.H.Host.reads c.args.host.now)

pub returns-in_err-put_prepared-clause-crash : goal.returns-in_err-put_prepared-clause-crash
returns-in_err-put_prepared-clause-crash g c = same_left c.args.log.now.file (g.H.Host.may_leave c.args.host.now)

pub returns-clause-gains : goal.returns-clause-gains
returns-clause-gains g c before n rests of may =
    let entry : Prepared = record { epoch = c.args.epoch; rows = c.args.rows.now } in
    let is : c.as_slice.result.now ≡ prepared_bytes entry = rw (c.as_slice.ensures.value, c.in_ok-put_prepared.ensures.ok, c.clear.ensures.items) refl in
    c.add.ensures.gains before (with_prepared n entry before) rests
    (prepared_grows before n entry c.args.log.now c.as_slice.result.now of (may c.in_ok-put_prepared.ensures.entry) is)

pub returns-clause-log : goal.returns-clause-log
returns-clause-log g c =
    let entry : Prepared = record { epoch = c.args.epoch; rows = c.args.rows.now } in
    let is : c.as_slice.result.now ≡ prepared_bytes entry = rw (c.as_slice.ensures.value, c.in_ok-put_prepared.ensures.ok, c.clear.ensures.items) refl in
    rw is at c.add.ensures.log

pub returns-clause-long : goal.returns-clause-long
returns-clause-long g c =
    let entry : Prepared = record { epoch = c.args.epoch; rows = c.args.rows.now } in
    let is : c.as_slice.result.now ≡ prepared_bytes entry = rw (c.as_slice.ensures.value, c.in_ok-put_prepared.ensures.ok, c.clear.ensures.items) refl in
    rw is at c.add.ensures.long
