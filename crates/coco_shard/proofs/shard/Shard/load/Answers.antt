use Rattle.std.proofs.Common.{None, Some, Option, OnErr, subst, sym}
use Rattle.coco_types.specs.declared.value.Value.{Value}
use Rattle.coco_shard.specs.Memory.{TakesMemory}
use Rattle.coco_shard.specs.RowState.{ShardState, IsSettled}
use Rattle.coco_shard.specs.Kept.{view_of}
use Rattle.coco_shard.proofs.Entries.{missing_or_on_err}
use Rattle.coco_shard.proofs.Steps.{loaded_settled, loads_settle}
use Rattle.coco_shard.proofs.shard.Shard.load.Goals as goal

pub returns-in-Some-clause-settled : goal.returns-in-Some-clause-settled
returns-in-Some-clause-settled c =
    loaded_settled c.load_row.result c.self.inside.rows.entries c.load_row.new.rows.entries c.args.key (Some c.in-Some.value) (subst IsSettled (sym c.self.view_is) c.requires) c.load_row.ensures.state c.load_row.ensures.err

pub returns-in-Some-clause-missing : goal.returns-in-Some-clause-missing
returns-in-Some-clause-missing c =
    let Missing : Option Value → Type 0 = λ v. OnErr c.load_row.result (TakesMemory c.args.self.now c.args.key v) in
    subst Missing (sym c.in-Some.is)
    (subst (λ (s : ShardState). OnErr c.load_row.result (TakesMemory s c.args.key (Some c.in-Some.value))) c.self.view_is (missing_or_on_err _ c.load_row.result c.self.inside.rows.entries c.args.key c.load_row.ensures.missing))

pub returns-in-None-clause-settled : goal.returns-in-None-clause-settled
returns-in-None-clause-settled c =
    subst IsSettled (sym c.drop_loaded.ensures.state) (loads_settle (view_of c.self.inside.rows.entries) c.args.key None (subst IsSettled (sym c.self.view_is) c.requires))
