use Rattle.std.proofs.Common.{◌≡◌, ℕ, ◌+◌, List, IfOk, refl, ap, arith, subst, ◌∙◌}
use Rattle.std.proofs.lemmas.Iterator.{items_from_collect, YieldsList-from_range}
use Rattle.std.specs.List.{range_with_len}
use Rattle.coco_entry.specs.declared.layout.Layout.{Layout}
use Rattle.coco_make.proofs.make.new_layout.Goals as goal

pub returns : goal.returns
returns c =
    let collected = items_from_collect c.collect.result c.collect.ensures.ran (YieldsList-from_range 2 (2 + c.from.result) c.args.nodes refl (omega arith)) in
    let files : c.in_ok-node_files.node_files.items ≡ range_with_len 2 c.args.nodes = subst (λ r. IfOk r (λ v. v.items ≡ range_with_len 2 c.args.nodes)) c.in_ok-node_files.was collected in
    ap
    (λ (l : List ℕ).
    let layout : Layout = record { nodes = c.args.nodes; partitions = c.args.partitions; copies = c.args.copies; chief_file = 1; node_files = l; base_epoch = 0; text = c.args.text } in
    layout)
    (c.from_vec.ensures ∙ files)
