use Rattle.std.proofs.Common.{refl}
use Rattle.coco_append.proofs.GainLemmas.{at_rest, made_stands, on_both}
use Rattle.coco_make.proofs.LayoutLemmas.{changes_appended, has_layout, sees_appended, sees_made}
use Rattle.coco_log.proofs.Changing.{changes_made}
use Rattle.coco_make.proofs.make.make_layouts.Goals as goal

pub returns-in_err-layouts-clause-moments : goal.returns-in_err-layouts-clause-moments
returns-in_err-layouts-clause-moments g c files told none =
    sees_made g.H.Host c.args.body.now c.args.host.now c.make.new.host none c.make.ensures.moments

pub append-requires-clause-rest : goal.append-requires-clause-rest
append-requires-clause-rest g c = at_rest _ _ _ (made_stands _ _ _ _ _ _ c.in_ok-layouts.ensures.files c.in_ok-layouts.ensures.ok)

pub returns-clause-ok : goal.returns-clause-ok
returns-clause-ok g c =
    on_both c.append.result _ _ _ (λ goes grew before told.
    let made = c.in_ok-layouts.ensures.ok before told in
    has_layout c.args.body.now before _ _ _ _ c.in_ok-layouts.layouts c.append.new.self c.in_ok-layouts.ensures.log grew made (goes made.files _ made.are made.rest))
    c.append.ensures.ok c.append.ensures.log

pub returns-clause-moments : goal.returns-clause-moments
returns-clause-moments g c files told none =
    let made = c.in_ok-layouts.ensures.ok files told in
    sees_appended g.H.Host c.args.body.now c.args.host.now c.make.new.host c.in_ok-layouts.layouts c.in_ok-layouts.ensures.log c.make.ensures.said c.make.ensures.crash c.append.new.host
    (sees_made g.H.Host c.args.body.now c.args.host.now c.make.new.host none c.make.ensures.moments)
    (c.append.ensures.moments made.files _ made.are made.rest)

pub returns-clause-changes : goal.returns-clause-changes
returns-clause-changes g c =
    changes_appended g.H.Host c.args.body.now c.args.host.now c.make.new.host c.in_ok-layouts.layouts c.in_ok-layouts.ensures.log c.make.ensures.said c.make.ensures.crash c.append.new.host
    (changes_made g.H.Host _ 0 c.args.host.now c.make.new.host refl c.make.ensures.moments c.make.ensures.files c.make.ensures.crash c.make.ensures.said)
    (λ files told. let made = c.in_ok-layouts.ensures.ok files told in c.append.ensures.moments made.files _ made.are made.rest)
    c.append.ensures.files c.append.ensures.crash c.append.ensures.said
