use Rattle.std.proofs.Common.{◌≡◌, ℕ, List, [], ◌∷◌, ◌++◌, false, refl, ap}
use Rattle.coco_log.specs.LogState.{LogState}
use Rattle.coco_log.proofs.Appends.{told_put, made}
use Rattle.coco_log.proofs.Others.{left_first, left_write}
use Rattle.coco_log.specs.Grammar.{header}
use Rattle.coco_log.proofs.log.Log.make.Goals as goal

pub returns-clause-log : goal.returns-clause-log
returns-clause-log g c =
    let none : c.new.result.items ≡ [] = cc c.new.ensures.items in
    ap (λ (l : List ℕ). let made_one : LogState = record { file = c.args.file; kind = c.args.kind; places = l; end = 8; spent = false } in made_one) none

pub returns-clause-ok : goal.returns-clause-ok
returns-clause-ok g c files told =
    let f = c.args.file in
    let s1 = c.write_and_sync.new.host in
    let wrote = told_put f 0 (header c.args.kind ++ 0 ∷ []) (g.H.Host.reads c.args.host.now) (g.H.Host.reads s1) files told c.in_ok-write_and_sync.ensures.written in
    let log : LogState = record { file = f; kind = c.args.kind; places = c.new.result.items; end = 8; spent = false } in
    let none : c.new.result.items ≡ [] = cc c.new.ensures.items in
    made log f c.args.kind files (g.H.Host.reads s1) (g.H.Host.reads s1) (g.H.Host.may_leave s1)
    (ap (λ (l : List ℕ). let fresh : LogState = record { file = f; kind = c.args.kind; places = l; end = 8; spent = false } in fresh) none) wrote refl c.in_ok-write_and_sync.ensures.durable

pub returns-in_err-write_and_sync-clause-moments : goal.returns-in_err-write_and_sync-clause-moments
returns-in_err-write_and_sync-clause-moments g c = c.write_and_sync.ensures.moments

pub returns-clause-moments : goal.returns-clause-moments
returns-clause-moments g c = c.write_and_sync.ensures.moments

pub returns-in_err-write_and_sync-clause-crash : goal.returns-in_err-write_and_sync-clause-crash
returns-in_err-write_and_sync-clause-crash g c =
    let L = g.H.Host.may_leave in
    let s0 = c.args.host.now in
    left_write c.args.file (L s0) (L s0) (L c.write_and_sync.new.host) 0 9 (left_first c.args.file (L s0)) c.write_and_sync.ensures.crash

pub returns-clause-crash : goal.returns-clause-crash
returns-clause-crash g c =
    let L = g.H.Host.may_leave in
    let s0 = c.args.host.now in
    left_write c.args.file (L s0) (L s0) (L c.write_and_sync.new.host) 0 9 (left_first c.args.file (L s0)) c.write_and_sync.ensures.crash
