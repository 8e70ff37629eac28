use Rattle.std.proofs.Common.{◌≡◌, ℕ, max, min, length, ap, ◌∙◌, subst}
use Rattle.coco_pace.specs.Choosing.{workers_of}
use Rattle.coco_parallel.specs.Traces.{traced}
use Rattle.coco_parallel.specs.Worked.{start_of}
use Rattle.coco_work.specs.Working.{HaveCopied}
use Rattle.coco_work.proofs.running.run.Goals as goal

pub returns-clause-early : goal.returns-clause-early
returns-clause-early g c m =
    let pace = c.args.room.now.pace in
    let allowed = c.args.config.workers in
    let chosen = c.workers-started.ensures.chosen ∙ ap (λ b. workers_of pace b c.len-count.result) c.busy_workers-busy.ensures
    ∙ ap (λ n. workers_of pace (max 1 (min allowed n)) n) (c.len-count.ensures ∙ c.args.requests.ok.0) in
    subst (λ n. HaveCopied (start_of c.args.procs.now m c.args.requests.items c.args.shards.now.items (record c.args.config { started = n }) (g.N.Net.carries c.args.net.now)) c.args.copies.now.items c.run_by.new.copies.items
    (traced c.in_ok-ran.ran.trace)) chosen (c.in_ok-ran.ensures.early m)
