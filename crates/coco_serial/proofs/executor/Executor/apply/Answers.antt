use Rattle.std.proofs.Common.{◌≡◌, ap, sym, ◌∙◌}
use Rattle.coco_ast.specs.Meaning.{Run}
use Rattle.coco_eval.specs.Standing.{Evaluation}
use Rattle.coco_serial.specs.Applied.{Applied, rows_of, writes_in, last_writes}
use Rattle.coco_serial.proofs.RowLemmas.{hash_same, ok_more}
use Rattle.coco_serial.proofs.RunningLemmas.{same_reply, same_run, applied_same, on_err, err_more}
use Rattle.coco_serial.proofs.executor.Executor.apply.Goals as goal

pub returns-in_err-restart-in-Some-clause-err : goal.returns-in_err-restart-in-Some-clause-err
returns-in_err-restart-in-Some-clause-err c =
    on_err c.from_residual-in_err-restart-in-Some.result _
    (applied_same _ _ _ _ (hash_same c.self.inside.rows.entries c.reserve.new.self.entries c.reserve.ensures.entries.2)
    (ap (λ (e : Evaluation). writes_in e.standing) c.in_err-restart-in-Some.ensures.err ∙ ap last_writes (sym c.in-Some.is)) ∙ c.self.view_is)

pub returns-in_ok-restart-in-Some-clause-reply : goal.returns-in_ok-restart-in-Some-clause-reply
returns-in_ok-restart-in-Some-clause-reply c =
    let rows : rows_of c.reserve.new.self ≡ c.args.self.now.rows = hash_same c.self.inside.rows.entries c.reserve.new.self.entries c.reserve.ensures.entries.2 ∙ ap (λ (a : Applied). a.rows) c.self.view_is in
    let same = same_run c.restart.new.self c.args.procs.now c.args.call.now (rows_of c.reserve.new.self) c.args.self.now.rows c.in_ok-restart-in-Some.ensures.ok rows in
    rw c.answered.ensures (same_reply c.reply.result.now _ c.reply.ensures.0 _ c.finish.new.running.standing c.reply.ensures.1 c.finish.ensures.ended ∙ ap (λ (r : Run). r.reply) same)

pub returns-in_ok-restart-in-Some-clause-rows : goal.returns-in_ok-restart-in-Some-clause-rows
returns-in_ok-restart-in-Some-clause-rows c =
    let rows : rows_of c.reserve.new.self ≡ c.args.self.now.rows = hash_same c.self.inside.rows.entries c.reserve.new.self.entries c.reserve.ensures.entries.2 ∙ ap (λ (a : Applied). a.rows) c.self.view_is in
    let same = same_run c.restart.new.self c.args.procs.now c.args.call.now (rows_of c.reserve.new.self) c.args.self.now.rows c.in_ok-restart-in-Some.ensures.ok rows in
    rw c.answered.ensures (c.finish.ensures.rows ∙ ap (λ (r : Run). r.rows) same)

pub returns-in_ok-restart-in-Some-clause-writes : goal.returns-in_ok-restart-in-Some-clause-writes
returns-in_ok-restart-in-Some-clause-writes c =
    let rows : rows_of c.reserve.new.self ≡ c.args.self.now.rows = hash_same c.self.inside.rows.entries c.reserve.new.self.entries c.reserve.ensures.entries.2 ∙ ap (λ (a : Applied). a.rows) c.self.view_is in
    let same = same_run c.restart.new.self c.args.procs.now c.args.call.now (rows_of c.reserve.new.self) c.args.self.now.rows c.in_ok-restart-in-Some.ensures.ok rows in
    rw c.answered.ensures (ap writes_in c.finish.ensures.ended ∙ ap (λ (r : Run). r.writes) same)

pub returns-in-None-clause-reply : goal.returns-in-None-clause-reply
returns-in-None-clause-reply c =
    let rows : rows_of c.reserve.new.self ≡ c.args.self.now.rows = hash_same c.self.inside.rows.entries c.reserve.new.self.entries c.reserve.ensures.entries.2 ∙ ap (λ (a : Applied). a.rows) c.self.view_is in
    rw (sym rows) c.first_reply.ensures.reply

pub returns-in-None-clause-rows : goal.returns-in-None-clause-rows
returns-in-None-clause-rows c =
    let rows : rows_of c.reserve.new.self ≡ c.args.self.now.rows = hash_same c.self.inside.rows.entries c.reserve.new.self.entries c.reserve.ensures.entries.2 ∙ ap (λ (a : Applied). a.rows) c.self.view_is in
    rw (sym rows) c.first_reply.ensures.rows

pub returns-in-None-clause-writes : goal.returns-in-None-clause-writes
returns-in-None-clause-writes c =
    let rows : rows_of c.reserve.new.self ≡ c.args.self.now.rows = hash_same c.self.inside.rows.entries c.reserve.new.self.entries c.reserve.ensures.entries.2 ∙ ap (λ (a : Applied). a.rows) c.self.view_is in
    rw (sym rows) (ok_more c.first_reply.result _ _ (λ l. ap last_writes l.1 ∙ ap writes_in l.2) c.first_reply.ensures.last)

pub returns-in-None-clause-err : goal.returns-in-None-clause-err
returns-in-None-clause-err c =
    err_more c.first_reply.result _ _
    (λ h. applied_same _ _ _ _ (ap rows_of h.1 ∙ hash_same c.self.inside.rows.entries c.reserve.new.self.entries c.reserve.ensures.entries.2) (ap last_writes h.0) ∙ c.self.view_is)
    c.first_reply.ensures.err
