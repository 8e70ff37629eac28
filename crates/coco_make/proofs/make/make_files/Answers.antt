use Rattle.std.proofs.Common.{◌∙◌}
use Rattle.coco_append.proofs.GainLemmas.{on_ok}
use Rattle.coco_make.specs.Making.{LeavesEmpty}
use Rattle.coco_make.proofs.MakeLemmas.{none_open, only_logs, own_apart, shows, store_rests, then_open}
use Rattle.coco_make.proofs.StoreLemmas.{fields_of, layout_short}
use Rattle.coco_make.proofs.make.make_files.Goals as goal

pub returns-in_err-make_empty_logs-clause-moments : goal.returns-in_err-make_empty_logs-clause-moments
returns-in_err-make_empty_logs-clause-moments g c files tree told none text =
    let N = g.met.H.Host.seen_now in
    let layout = c.args.layout.now in
    let is = c.requires.new in
    let fields = fields_of layout is c.requires.good in
    let limits = c.requires.good.limits in
    let body = c.args.body.now in
    let is_body = c.requires.body in
    let first = c.args.host.now in
    let mid = c.make_empty_logs.new.host in
    let changes = c.make_empty_logs.ensures.changes in
    shows layout fields is limits tree text body is_body g.H.Host N first mid changes.quiet
    (none_open layout fields is limits tree text body is_body g.H.Host N _ first mid (own_apart layout fields) none (changes.moments files told))

pub make_empty_logs-requires : goal.make_empty_logs-requires
make_empty_logs-requires g c = fields_of c.args.layout.now c.requires.new c.requires.good

pub make_layouts-requires : goal.make_layouts-requires
make_layouts-requires g c = layout_short c.args.layout.now c.args.body.now c.requires.new c.requires.good c.requires.body

pub returns-clause-ok : goal.returns-clause-ok
returns-clause-ok g c =
    let R = g.H.Host.reads in
    let L = g.H.Host.may_leave in
    let mid = c.make_empty_logs.new.host in
    let new = c.make_layouts.new.host in
    on_ok c.make_layouts.result _ _ (λ goes files tree told text.
    let empty = c.in_ok-make_empty_logs.ensures.ok files told in
    store_rests c.args.layout.now (fields_of c.args.layout.now c.requires.new c.requires.good) c.requires.new c.requires.good.limits tree text c.args.body.now c.requires.body files (R mid) (R new) (L mid) (L new) empty (goes empty.files empty.are) c.make_layouts.ensures.changes.crash
    (g.met.H.Host.reads_left new)) c.make_layouts.ensures.ok

pub returns-clause-bytes : goal.returns-clause-bytes
returns-clause-bytes g c =
    let R = g.H.Host.reads in
    let L = g.H.Host.may_leave in
    let mid = c.make_empty_logs.new.host in
    let new = c.make_layouts.new.host in
    on_ok c.make_layouts.result _ _ (λ goes.
    only_logs c.args.layout.now (fields_of c.args.layout.now c.requires.new c.requires.good) c.args.body.now c.requires.body (R c.args.host.now) (R mid) (R new) (L mid) (L new)
    (λ before told. let empty = c.in_ok-make_empty_logs.ensures.ok before told in (empty, goes empty.files empty.are))) c.make_layouts.ensures.ok

pub returns-clause-moments : goal.returns-clause-moments
returns-clause-moments g c files tree told none text =
    let R = g.H.Host.reads in
    let L = g.H.Host.may_leave in
    let N = g.met.H.Host.seen_now in
    let layout = c.args.layout.now in
    let is = c.requires.new in
    let fields = fields_of layout is c.requires.good in
    let limits = c.requires.good.limits in
    let body = c.args.body.now in
    let is_body = c.requires.body in
    let first = c.args.host.now in
    let mid = c.make_empty_logs.new.host in
    let new = c.make_layouts.new.host in
    let changes = c.make_empty_logs.ensures.changes in
    let empty = c.in_ok-make_empty_logs.ensures.ok files told in
    let still : LeavesEmpty 0 (L mid) = λ image left. let from = changes.crash image left in from.2 0 (own_apart layout fields) ∙ none from.0 from.1 in
    shows layout fields is limits tree text body is_body g.H.Host N first new (c.make_layouts.ensures.changes.quiet ∙ changes.quiet)
    (then_open layout fields is limits tree text body is_body g.H.Host N first mid new files (R mid) empty
    (none_open layout fields is limits tree text body is_body g.H.Host N _ first mid (own_apart layout fields) none (changes.moments files told))
    (c.make_layouts.ensures.moments empty.files empty.are still))
