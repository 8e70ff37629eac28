use Rattle.std.proofs.Common.{List, sym, ◌∙◌, subst}
use Rattle.coco_types.specs.RowKey.{RowKey}
use Rattle.coco_types.specs.declared.value.Value.{Value}
use Rattle.coco_shard.specs.RowState.{ShardState, value_at, ListsRows}
use Rattle.coco_shard.specs.Kept.{view_of}
use Rattle.coco_shard.proofs.ValueLemmas.{lists_rows}
use Rattle.coco_shard.proofs.shard.Shard.rows.Goals as goal

pub returns : goal.returns
returns c =
    let Rows : List (RowKey × Value) → Type 0 = λ rows. ListsRows (value_at c.args.stable (view_of c.self.inside.rows.entries)) rows in
    subst (λ (s : ShardState). ListsRows (value_at c.args.stable s) c.from_vec.result) c.self.view_is
    (subst Rows (sym (c.from_vec.ensures ∙ c.in_ok-values.ensures.values)) (lists_rows c.args.stable c.self.inside.rows.entries c.in_ok-values.ensures.rising))
