use Rattle.std.proofs.Common.{◌≡◌, ◌++◌, true, false, List, Result, Ok, Err, OnOk, subst}
use Rattle.std.specs.Map.{keys_of}
use Rattle.coco_types.specs.RowKey.{RowKey}
use Rattle.coco_types.specs.declared.value.Value.{Value}
use Rattle.coco_shard.specs.Kept.{values_in}
use Rattle.coco_shard.specs.RowState.{ListsRows, ShardState, stable_at}
use Rattle.coco_shard.proofs.ValueLemmas.{lists_rows}
use Rattle.coco_shard.proofs.shard.Shard.add_keys.Goals as goal

on_both : {T E P Q R : Type 0} (r : Result T E) → OnOk r P → OnOk r Q → (P → Q → R) → OnOk r R
on_both (Ok x) p q f = f p q
on_both (Err e) p q f = tt

pub returns : goal.returns
returns c =
    let es = c.self.inside.rows.entries in
    let Added : ShardState → Type 0 = λ s. (rows : List (RowKey × Value)) × ListsRows (stable_at s) rows × (c.add_keys.new.keys.items ≡ c.args.keys.now.items ++ keys_of rows) in
    subst (λ (s : ShardState). OnOk c.add_keys.result (Added s)) c.self.view_is
    (on_both c.add_keys.result c.add_keys.ensures.rising c.add_keys.ensures.keys (λ rising keys. (values_in false es, lists_rows true es rising, keys)))
