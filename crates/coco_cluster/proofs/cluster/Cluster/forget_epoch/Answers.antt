use Rattle.std.proofs.Common.{◌+◌, refl, sym, ◌∙◌, subst, List}
use Rattle.std.specs.Vec.{with_items}
use Rattle.std.proofs.lemmas.List.{with_items_is}
use Rattle.coco_copy.specs.CopyState.{CopyState}
use Rattle.coco_finish.specs.declared.tables.NodeTables.{NodeTables}
use Rattle.coco_members.specs.declared.members.Members.{Members}
use Rattle.coco_shard.specs.RowState.{ShardState}
use Rattle.coco_standing.specs.Standing.{TablesKeep, TablesStand, none_behind}
use Rattle.coco_cluster.proofs.EndLemmas.{forgotten_rest, forgotten_shards, marks_stand}
use Rattle.coco_cluster.proofs.cluster.Cluster.forget_epoch.Goals as goal

pub returns-clause-forgotten : goal.returns-clause-forgotten
returns-clause-forgotten c =
    let t : NodeTables = c.args.self.now.members.tables in
    record {
      next = refl;
      tables = record { layout = t.layout; shards = with_items t.shards c.revert_all.new.shards; copies = with_items t.copies c.revert_all.new.copies; behind = t.behind };
      layout = refl;
      behind = refl;
      same = refl;
    }

pub returns-clause-rest : goal.returns-clause-rest
returns-clause-rest c sent m quiet none keeps =
    let k : Members = c.args.self.now.members in
    let t : NodeTables = c.args.self.now.members.tables in
    let after : Members = record k { tables = record { layout = t.layout; shards = with_items t.shards c.revert_all.new.shards; copies = with_items t.copies c.revert_all.new.copies; behind = t.behind } } in
    forgotten_rest k after refl refl refl c.as_mut_slice.result.now c.revert_all.new.shards c.as_mut_slice-2.result.now c.revert_all.new.copies c.as_mut_slice.ensures.value
    (with_items_is t.shards c.revert_all.new.shards (c.revert_all.auto.shards ∙ c.as_mut_slice.ensures.len)) c.revert_all.ensures.shards c.as_mut_slice-2.ensures.value
    (with_items_is t.copies c.revert_all.new.copies (c.revert_all.auto.copies ∙ c.as_mut_slice-2.ensures.len)) c.revert_all.ensures.copies (c.args.self.now.next_epoch + 1) sent m quiet none keeps

pub returns-clause-shards : goal.returns-clause-shards
returns-clause-shards c m none keeps =
    let k : Members = c.args.self.now.members in
    let t : NodeTables = c.args.self.now.members.tables in
    let after : Members = record k { tables = record { layout = t.layout; shards = with_items t.shards c.revert_all.new.shards; copies = with_items t.copies c.revert_all.new.copies; behind = t.behind } } in
    forgotten_shards k after refl refl refl c.as_mut_slice.result.now c.revert_all.new.shards c.as_mut_slice-2.result.now c.revert_all.new.copies c.as_mut_slice.ensures.value
    (with_items_is t.shards c.revert_all.new.shards (c.revert_all.auto.shards ∙ c.as_mut_slice.ensures.len)) c.revert_all.ensures.shards c.as_mut_slice-2.ensures.value
    (with_items_is t.copies c.revert_all.new.copies (c.revert_all.auto.copies ∙ c.as_mut_slice-2.ensures.len)) c.revert_all.ensures.copies m none keeps

pub returns-clause-map : goal.returns-clause-map
returns-clause-map c m none keeps =
    let t : NodeTables = c.args.self.now.members.tables in
    marks_stand t.layout m t.behind.items (with_items t.shards c.revert_all.new.shards).items (with_items t.copies c.revert_all.new.copies).items none
    (subst (λ (s : List ShardState). TablesStand t.layout m none_behind s (with_items t.copies c.revert_all.new.copies).items)
    (sym (with_items_is t.shards c.revert_all.new.shards (c.revert_all.auto.shards ∙ c.as_mut_slice.ensures.len)))
    (subst (λ (d : List CopyState). TablesStand t.layout m none_behind c.revert_all.new.shards d)
    (sym (with_items_is t.copies c.revert_all.new.copies (c.revert_all.auto.copies ∙ c.as_mut_slice-2.ensures.len)))
    (c.revert_all.ensures.stand t.layout m
    (subst (λ (s : List ShardState). TablesKeep t.layout m s c.as_mut_slice-2.result.now) (sym c.as_mut_slice.ensures.value) (subst (λ (d : List CopyState). TablesKeep t.layout m t.shards.items d) (sym c.as_mut_slice-2.ensures.value) keeps)))))
