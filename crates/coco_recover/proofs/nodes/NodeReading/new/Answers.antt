use Rattle.std.proofs.Common.{◌≡◌, List, ◌++◌, refl, ap, ◌∙◌}
use Rattle.coco_copy.specs.CopyState.{CopyState}
use Rattle.coco_shard.specs.RowState.{ShardState}
use Rattle.coco_recover.specs.Nodes.{node_basis, setting_with}
use Rattle.coco_recover.proofs.Loading.{loads_none}
use Rattle.coco_recover.proofs.nodes.NodeReading.new.Goals as goal

pub invariant_of-result : goal.invariant_of-result
invariant_of-result c =
    let s = setting_with c.args.layout.now c.args.procs.now in
    let tables = c.args.tables in
    let shards : c.add.new.self.items ≡ tables.shards.items = c.add.ensures ∙ ap (λ (l : List ShardState). l ++ c.as_slice.result.now) c.new-shards.ensures ∙ c.as_slice.ensures.value in
    let copies : c.add-2.new.self.items ≡ tables.copies.items = c.add-2.ensures ∙ ap (λ (l : List CopyState). l ++ c.as_slice-2.result.now) c.new-copies.ensures ∙ c.as_slice-2.ensures.value in (
      c.requires.node,
      λ _. rw (c.new-2.ensures, shards, copies) (record {
        each = tt;
        behind = c.new.ensures.behind s refl;
        is_node = c.new.ensures.node;
        tables = c.requires.tables;
        loads = loads_none s c.args.epochs.now c.args.node tables.shards.items tables.copies.items;
        greatest = refl;
      }),
    )

pub returns : goal.returns
returns c =
    let tables = c.args.tables in
    let shards : c.add.new.self.items ≡ tables.shards.items = c.add.ensures ∙ ap (λ (l : List ShardState). l ++ c.as_slice.result.now) c.new-shards.ensures ∙ c.as_slice.ensures.value in
    let copies : c.add-2.new.self.items ≡ tables.copies.items = c.add-2.ensures ∙ ap (λ (l : List CopyState). l ++ c.as_slice-2.result.now) c.new-copies.ensures ∙ c.as_slice-2.ensures.value in
    record { under = λ i. node_basis c.args.layout.now c.args.procs.now c.args.epochs.now c.args.node (shards i) (copies i); taken = c.new-2.ensures }
