use Rattle.std.proofs.Common.{◌≡◌, Ok, Err, length, inl, inr, refl, sym, subst}
use Rattle.std.proofs.lemmas.Result.{err_from_is_err_and}
use Rattle.coco_append.specs.Adding.{CountsAdd, RefusesLong}
use Rattle.coco_append.specs.declared.fault.AddFault.{AddFault}
use Rattle.coco_append.specs.Gaining.{HasStore}
use Rattle.coco_append.proofs.AddLemmas.{counts_add, never_long, none_ok, so_counts, so_long}
use Rattle.coco_append.proofs.GainLemmas.{at_err, at_rest, gained, nothing_gained, same_files, same_left, stands_grown, stands_on}
use Rattle.coco_append.proofs.adding.add.Goals as goal

pub returns-then-body-gt-MOST-clause-gains : goal.returns-then-body-gt-MOST-clause-gains
returns-then-body-gt-MOST-clause-gains g c before after rests grows =
    nothing_gained g.H.Host _ (HasStore before) (HasStore after) g.met.H.Host.only_now c.args.host.now _ refl rests

pub returns-then-body-gt-MOST-clause-files : goal.returns-then-body-gt-MOST-clause-files
returns-then-body-gt-MOST-clause-files g c = same_files c.args.log.now.file (g.H.Host.reads c.args.host.now)

pub returns-then-body-gt-MOST-clause-crash : goal.returns-then-body-gt-MOST-clause-crash
returns-then-body-gt-MOST-clause-crash g c = same_left c.args.log.now.file (g.H.Host.may_leave c.args.host.now)

pub returns-then-body-gt-MOST-clause-err : goal.returns-then-body-gt-MOST-clause-err
returns-then-body-gt-MOST-clause-err g c = inl (refl, refl)

pub append-requires-clause-rest : goal.append-requires-clause-rest
append-requires-clause-rest g c = at_rest c.args.log.now (g.H.Host.reads c.args.host.now) (g.H.Host.may_leave c.args.host.now) c.requires.stands

pub returns-in_err-append-clause-gains : goal.returns-in_err-append-clause-gains
returns-in_err-append-clause-gains g c before after rests grows =
    let p = err_from_is_err_and c.from_residual.result c.from_residual.ensures.1 in
    gained g.H.Host c.from_residual.result (HasStore before) (HasStore after) c.args.host.now c.append.new.host c.args.log.now c.append.new.self c.args.body.now
    rests c.requires.stands grows g.met.H.Host.seen_now c.append.ensures.moments (none_ok c.from_residual.result p.0 _ p.1) (none_ok c.from_residual.result p.0 _ p.1) c.append.ensures.crash c.append.ensures.said

pub returns-in_err-append-clause-err : goal.returns-in_err-append-clause-err
returns-in_err-append-clause-err g c = at_err c.from_residual.result _ (inr c.in_err-append.ensures.spent)

pub returns-in_err-append-clause-others : goal.returns-in_err-append-clause-others
returns-in_err-append-clause-others g c other apart stands = stands_on other c.args.log.now.file _ _ _ _ apart c.append.ensures.files c.append.ensures.crash stands

pub returns-in_err-append-clause-counts : goal.returns-in_err-append-clause-counts
returns-in_err-append-clause-counts g c =
    let p = err_from_is_err_and c.from_residual.result c.from_residual.ensures.1 in
    so_counts c.from_residual.result p.0 _ _ p.1 (subst (λ e. CountsAdd {T = Unit {0}} (Err e) (g.H.Host.disk_faults c.args.host.now) (g.H.Host.disk_faults c.append.new.host)) (sym p.2) (counts_add (Unit {0}) _ _ _ c.in_err-append.ensures.counts))

pub returns-in_err-append-clause-long : goal.returns-in_err-append-clause-long
returns-in_err-append-clause-long g c =
    let p = err_from_is_err_and c.from_residual.result c.from_residual.ensures.1 in
    let same : Type 0 = (c.append.new.host ≡ c.args.host.now) × (c.append.new.self ≡ c.args.log.now) in
    so_long c.from_residual.result p.0 (length c.args.body.now) same p.1
    (subst (λ e. RefusesLong {T = Unit {0}} (Err e) (length c.args.body.now) same) (sym p.2) (never_long (Unit {0}) _ (length c.args.body.now) same))

pub returns-clause-gains : goal.returns-clause-gains
returns-clause-gains g c before after rests grows =
    gained g.H.Host _ (HasStore before) (HasStore after) c.args.host.now c.append.new.host c.args.log.now c.append.new.self c.args.body.now
    rests c.requires.stands grows g.met.H.Host.seen_now c.append.ensures.moments c.in_ok-append.ensures.ok c.in_ok-append.ensures.log c.append.ensures.crash c.append.ensures.said

pub returns-clause-stands : goal.returns-clause-stands
returns-clause-stands g c = stands_grown {T = Unit {0}} {E = AddFault} (Ok tt) c.args.log.now c.append.new.self c.args.body.now (g.H.Host.reads c.args.host.now) (g.H.Host.reads c.append.new.host) (g.H.Host.may_leave c.args.host.now) (g.H.Host.may_leave c.append.new.host) c.append.ensures.files c.requires.stands c.in_ok-append.ensures.ok

pub returns-clause-others : goal.returns-clause-others
returns-clause-others g c other apart stands = stands_on other c.args.log.now.file _ _ _ _ apart c.append.ensures.files c.append.ensures.crash stands
