use Rattle.std.proofs.Common.{◌≡◌, refl, ap, ◌∙◌}
use Rattle.coco_ast.specs.Meaning.{Run}
use Rattle.coco_eval.specs.Standing.{Ended}
use Rattle.coco_serial.specs.Applied.{rows_of}
use Rattle.coco_serial.proofs.RunningLemmas.{same_reply, same_run}
use Rattle.coco_serial.proofs.executor.first_reply.Goals as goal

pub returns-clause-reply : goal.returns-clause-reply
returns-clause-reply c =
    let m = rows_of c.args.rows.now in
    let same = same_run c.in_ok-running.running c.args.procs.now c.args.call.now m m c.in_ok-running.ensures refl in
    same_reply c.reply-reply.result.now _ c.reply-reply.ensures.0 _ c.finish.new.running.standing c.reply-reply.ensures.1 c.finish.ensures.ended ∙ ap (λ (r : Run). r.reply) same

pub returns-clause-rows : goal.returns-clause-rows
returns-clause-rows c =
    let m = rows_of c.args.rows.now in
    c.finish.ensures.rows ∙ ap (λ (r : Run). r.rows) (same_run c.in_ok-running.running c.args.procs.now c.args.call.now m m c.in_ok-running.ensures refl)

pub returns-clause-last : goal.returns-clause-last
returns-clause-last c =
    let m = rows_of c.args.rows.now in
    let same = same_run c.in_ok-running.running c.args.procs.now c.args.call.now m m c.in_ok-running.ensures refl in
    (c.finish.new.running, refl, c.finish.ensures.ended ∙ ap (λ (r : Run). Ended r.reply r.writes) same)
