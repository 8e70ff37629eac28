use Rattle.std.proofs.Common.{◌≡◌, ℕ, ◌+◌, List, [], ◌∷◌, ◌++◌, length, true, false, refl, sym, ap, subst, ◌∙◌}
use Rattle.std.specs.Prelude.{Result, Ok, Err, OnErr}
use Rattle.coco_host.specs.Files.{Become, Follows}
use Rattle.coco_host.specs.Moments.{SeesOnly}
use Rattle.coco_log.specs.Grammar.{counted}
use Rattle.coco_log.specs.LogState.{LogState, IsAtRest, IsBeforeOrAfter, ChangesOne, SameBut, IsAppended}
use Rattle.coco_log.proofs.Appends.{at_first, ready_of, appended}
use Rattle.coco_log.proofs.Others.{left_first, told_first}
use Rattle.coco_log.proofs.log.Log.append.Goals as goal

on_err : {T E : Type 0} (r : Result T E) (P : Type 0) → P → OnErr r P
on_err (Ok x) P p = tt
on_err (Err e) P p = p

pub returns-in_err-stage-clause-moments : goal.returns-in_err-stage-clause-moments
returns-in_err-stage-clause-moments g c files bodies told rest =
    let L = g.H.Host.may_leave c.args.host.now in
    let x = c.self.inside in
    let log : LogState = record { file = x.file; kind = x.kind; places = x.places.items; end = x.end; spent = x.is_spent } in
    let at_rest = subst (λ (l : LogState). IsAtRest l bodies files L) (sym c.self.view_is) rest in
    let ready = ready_of log bodies files L at_rest in
    subst (λ (l : LogState). SeesOnly g.H.Host.moment g.H.Host.observed c.args.host.now c.args.host.now (ChangesOne l.file (IsBeforeOrAfter l.kind bodies c.args.body.now) L (g.H.Host.said c.args.host.now))) c.self.view_is
    (at_first g.H.Host g.met.H.Host.only_now x.file x.kind x.end bodies c.args.body.now (counted c.args.body.now ++ 0 ∷ []) files c.args.host.now ready (record { short = c.requires.short; is = refl }))

pub returns-in_err-write_entry-clause-moments : goal.returns-in_err-write_entry-clause-moments
returns-in_err-write_entry-clause-moments g c files bodies told rest =
    let L = g.H.Host.may_leave c.args.host.now in
    let x = c.self.inside in
    let log : LogState = record { file = x.file; kind = x.kind; places = x.places.items; end = x.end; spent = x.is_spent } in
    let at_rest = subst (λ (l : LogState). IsAtRest l bodies files L) (sym c.self.view_is) rest in
    let ready = ready_of log bodies files L at_rest in
    subst (λ (l : LogState). SeesOnly g.H.Host.moment g.H.Host.observed c.args.host.now c.write_entry.new.host (ChangesOne l.file (IsBeforeOrAfter l.kind bodies c.args.body.now) L (g.H.Host.said c.args.host.now))) c.self.view_is
    (c.write_entry.ensures.moments files x.kind bodies c.args.body.now told ready (record { short = c.requires.short; is = c.deref.ensures.value ∙ c.in_ok-stage.ensures.piece }))

pub returns-clause-moments : goal.returns-clause-moments
returns-clause-moments g c files bodies told rest =
    let L = g.H.Host.may_leave c.args.host.now in
    let x = c.self.inside in
    let log : LogState = record { file = x.file; kind = x.kind; places = x.places.items; end = x.end; spent = x.is_spent } in
    let at_rest = subst (λ (l : LogState). IsAtRest l bodies files L) (sym c.self.view_is) rest in
    let ready = ready_of log bodies files L at_rest in
    subst (λ (l : LogState). SeesOnly g.H.Host.moment g.H.Host.observed c.args.host.now c.write_entry.new.host (ChangesOne l.file (IsBeforeOrAfter l.kind bodies c.args.body.now) L (g.H.Host.said c.args.host.now))) c.self.view_is
    (c.write_entry.ensures.moments files x.kind bodies c.args.body.now told ready (record { short = c.requires.short; is = c.deref.ensures.value ∙ c.in_ok-stage.ensures.piece }))

pub returns-in_err-stage-clause-spent : goal.returns-in_err-stage-clause-spent
returns-in_err-stage-clause-spent g c =
    let x = c.self.inside in
    on_err c.from_residual.result _
    (ap (λ (l : List ℕ). let log : LogState = record { file = x.file; kind = x.kind; places = l; end = x.end; spent = true } in log) c.stage.ensures.places
    ∙ ap (λ (l : LogState). let log : LogState = record { file = l.file; kind = l.kind; places = l.places; end = l.end; spent = true } in log) c.self.view_is)

pub returns-in_err-write_entry-clause-spent : goal.returns-in_err-write_entry-clause-spent
returns-in_err-write_entry-clause-spent g c =
    let x = c.self.inside in
    on_err c.from_residual-in_err-write_entry.result _
    (ap (λ (l : List ℕ). let log : LogState = record { file = x.file; kind = x.kind; places = l; end = x.end; spent = true } in log) c.stage.ensures.places
    ∙ ap (λ (l : LogState). let log : LogState = record { file = l.file; kind = l.kind; places = l.places; end = l.end; spent = true } in log) c.self.view_is)

pub returns-clause-log : goal.returns-clause-log
returns-clause-log g c =
    let x = c.self.inside in
    let places : c.push.new.self.items ≡ x.places.items ++ x.end ∷ [] = rw (c.push.ensures.items, c.push.ensures.succeeds c.in_ok-stage.ensures.room, c.stage.ensures.places) refl in
    rw (places, ← c.self.view_is)

pub returns-clause-ok : goal.returns-clause-ok
returns-clause-ok g c files bodies told rest =
    let L = g.H.Host.may_leave c.args.host.now in
    let x = c.self.inside in
    let log : LogState = record { file = x.file; kind = x.kind; places = x.places.items; end = x.end; spent = x.is_spent } in
    let at_rest = subst (λ (l : LogState). IsAtRest l bodies files L) (sym c.self.view_is) rest in
    let ready = ready_of log bodies files L at_rest in
    let stands = c.in_ok-write_entry.ensures.ok files x.kind bodies c.args.body.now told ready (record { short = c.requires.short; is = c.deref.ensures.value ∙ c.in_ok-stage.ensures.piece }) in
    let places : c.push.new.self.items ≡ x.places.items ++ x.end ∷ [] = rw (c.push.ensures.items, c.push.ensures.succeeds c.in_ok-stage.ensures.room, c.stage.ensures.places) refl in
    let new : LogState = record { file = x.file; kind = x.kind; places = c.push.new.self.items; end = x.end + (5 + length c.args.body.now); spent = false } in
    let is = ap (λ (l : List ℕ). let n : LogState = record { file = x.file; kind = x.kind; places = l; end = x.end + (5 + length c.args.body.now); spent = false } in n) places in
    subst (λ (l : LogState). IsAppended l new bodies c.args.body.now files (g.H.Host.reads c.write_entry.new.host) (g.H.Host.may_leave c.write_entry.new.host)) c.self.view_is
    (appended log new bodies c.args.body.now files (g.H.Host.reads c.write_entry.new.host) L (g.H.Host.may_leave c.write_entry.new.host) at_rest is stands)

pub returns-in_err-stage-clause-crash : goal.returns-in_err-stage-clause-crash
returns-in_err-stage-clause-crash g c = left_first _ (g.H.Host.may_leave c.args.host.now)

pub returns-in_err-stage-clause-files : goal.returns-in_err-stage-clause-files
returns-in_err-stage-clause-files g c = told_first _ (g.H.Host.reads c.args.host.now)

pub returns-in_err-write_entry-clause-crash : goal.returns-in_err-write_entry-clause-crash
returns-in_err-write_entry-clause-crash g c = subst (λ (l : LogState). Follows (SameBut l.file) (g.H.Host.may_leave c.args.host.now) (g.H.Host.may_leave c.write_entry.new.host)) c.self.view_is c.write_entry.ensures.crash

pub returns-in_err-write_entry-clause-files : goal.returns-in_err-write_entry-clause-files
returns-in_err-write_entry-clause-files g c = subst (λ (l : LogState). Become (SameBut l.file) (g.H.Host.reads c.args.host.now) (g.H.Host.reads c.write_entry.new.host)) c.self.view_is c.write_entry.ensures.files

pub returns-clause-crash : goal.returns-clause-crash
returns-clause-crash g c = subst (λ (l : LogState). Follows (SameBut l.file) (g.H.Host.may_leave c.args.host.now) (g.H.Host.may_leave c.write_entry.new.host)) c.self.view_is c.write_entry.ensures.crash

pub returns-clause-files : goal.returns-clause-files
returns-clause-files g c = subst (λ (l : LogState). Become (SameBut l.file) (g.H.Host.reads c.args.host.now) (g.H.Host.reads c.write_entry.new.host)) c.self.view_is c.write_entry.ensures.files
