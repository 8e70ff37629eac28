use Rattle.std.proofs.Common.{◌≡◌, ◌+◌, ◌-◌, ◌*◌, List, OnOk, get_or, slice_set, refl, subst, arith, rules}
use Rattle.std.specs.FinMap.{empty}
use Rattle.std.proofs.lemmas.Result.{on_ok_weaker}
use Rattle.coco_ast.specs.Keyed.{write_at}
use Rattle.coco_copy.specs.CopyState.{CopyState, begun}
use Rattle.coco_shard.specs.RowState.{ShardState, loaded}
use Rattle.coco_load.specs.Tables.{shard_at}
use Rattle.coco_load.proofs.TableLemmas.{copy_left, copy_left_tables, none_hold, put_back, shard_left, shard_left_tables}
use Rattle.coco_load.proofs.tables.Tables.load_at.Goals as goal

pub returns-then-behind-eq0-clause-tables : goal.returns-then-behind-eq0-clause-tables
returns-then-behind-eq0-clause-tables c =
    let place = c.partition-partition.result in
    let same : c.deref_mut.result.now ≡ c.args.self.now.shards.items = search rules in
    on_ok_weaker c.load_shard.result
    (λ are. shard_left_tables c.args.layout.now c.args.key c.args.value.now c.args.self.now.shards.items c.args.self.now.copies.items place _ c.partition-partition.ensures.is (put_back c.load_shard.new.shards _ c.args.self.now.shards.items c.args.self.now.shards.len place _ c.args.self.now.shards.ok.0 are) c.requires)
    (subst (λ (l : List ShardState). OnOk c.load_shard.result (c.load_shard.new.shards ≡ slice_set l place (loaded (shard_at l place) c.args.key c.args.value.now))) same c.load_shard.ensures)

pub returns-then-behind-eq0-clause-ok : goal.returns-then-behind-eq0-clause-ok
returns-then-behind-eq0-clause-ok c =
    let place = c.partition-partition.result in
    let same : c.deref_mut.result.now ≡ c.args.self.now.shards.items = search rules in
    on_ok_weaker c.load_shard.result
    (λ are. shard_left c.args.layout.now c.args.key c.args.value.now c.args.self.now.shards.items c.args.self.now.copies.items c.args.behind place _ (omega arith) c.partition-partition.ensures.is (put_back c.load_shard.new.shards _ c.args.self.now.shards.items c.args.self.now.shards.len place _ c.args.self.now.shards.ok.0 are))
    (subst (λ (l : List ShardState). OnOk c.load_shard.result (c.load_shard.new.shards ≡ slice_set l place (loaded (shard_at l place) c.args.key c.args.value.now))) same c.load_shard.ensures)

pub returns-then-behind-copies-clause-tables : goal.returns-then-behind-copies-clause-tables
returns-then-behind-copies-clause-tables c =
    let place = c.partition-partition.result * c.args.layout.now.copies + c.args.behind - 1 in
    let same : c.deref_mut-then-behind-copies.result.now ≡ c.args.self.now.copies.items = search rules in
    on_ok_weaker c.load_copy.result
    (λ are. copy_left_tables c.args.layout.now c.args.key c.args.value.now c.args.self.now.shards.items c.args.self.now.copies.items c.args.behind c.partition-partition.result place _ (omega arith) (omega arith) c.partition-partition.ensures.is refl (put_back c.load_copy.new.copies _ c.args.self.now.copies.items c.args.self.now.copies.len place _ c.args.self.now.copies.ok.0 are) c.requires)
    (subst (λ (l : List CopyState). OnOk c.load_copy.result (c.load_copy.new.copies ≡ (let copy = get_or l place (begun 0 empty) in slice_set l place (record copy { stable = write_at copy.stable c.args.key c.args.value.now })))) same c.load_copy.ensures)

pub returns-then-behind-copies-clause-ok : goal.returns-then-behind-copies-clause-ok
returns-then-behind-copies-clause-ok c =
    let place = c.partition-partition.result * c.args.layout.now.copies + c.args.behind - 1 in
    let same : c.deref_mut-then-behind-copies.result.now ≡ c.args.self.now.copies.items = search rules in
    on_ok_weaker c.load_copy.result
    (λ are. copy_left c.args.layout.now c.args.key c.args.value.now c.args.self.now.shards.items c.args.self.now.copies.items c.args.behind c.partition-partition.result place _ (omega arith) (omega arith) c.partition-partition.ensures.is refl (put_back c.load_copy.new.copies _ c.args.self.now.copies.items c.args.self.now.copies.len place _ c.args.self.now.copies.ok.0 are))
    (subst (λ (l : List CopyState). OnOk c.load_copy.result (c.load_copy.new.copies ≡ (let copy = get_or l place (begun 0 empty) in slice_set l place (record copy { stable = write_at copy.stable c.args.key c.args.value.now })))) same c.load_copy.ensures)

pub returns-else-behind-copies-clause-ok : goal.returns-else-behind-copies-clause-ok
returns-else-behind-copies-clause-ok c =
    none_hold c.args.layout.now c.args.key c.args.value.now c.args.self.now.shards.items c.args.self.now.copies.items c.args.behind (omega arith)
