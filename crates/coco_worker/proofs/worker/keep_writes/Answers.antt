use Rattle.std.proofs.Common.{ℕ, List, ◌++◌, sym, ap, ◌∙◌, subst}
use Rattle.std.proofs.lemmas.List.{with_items_is}
use Rattle.coco_desks.specs.Gains.{Gain}
use Rattle.coco_pieces.specs.Pieces.{request_pieces}
use Rattle.coco_worker.specs.Copying.{asked, puts_at}
use Rattle.coco_worker.proofs.CopyLemmas.{CopyPass}
use Rattle.coco_worker.proofs.ScriptLemmas.{by_ok}
use Rattle.coco_worker.proofs.worker.keep_writes.Goals as goal

pub returns-clause-kept : goal.returns-clause-kept
returns-clause-kept g c =
    let commit = c.args.commit in
    let writes = c.args.writes.now in
    let first = c.args.slot.now.copy_passes.items in
    let puts = λ (table : ℕ). puts_at (g.N.Net.carries c.args.net.now) commit table writes in
    let back = with_items_is c.args.slot.now.copy_passes c.deliver.new.passes (c.deliver.auto.passes ∙ c.as_mut_slice-passes.ensures.len) in
    by_ok c.deliver.result c.deliver.ensures.copied
    (λ copied. record {
      pieces = c.in_ok-add_pieces.ensures ∙ ap (λ (n : ℕ). c.args.slot.now.pieces ++ request_pieces n commit.place commit.time writes) c.from-count.ensures;
      copied = subst (λ (ps : List CopyPass). Gain asked first ps puts) (sym back) (subst (λ (ps : List CopyPass). Gain asked ps c.deliver.new.passes puts) c.as_mut_slice-passes.ensures.value copied);
    })
