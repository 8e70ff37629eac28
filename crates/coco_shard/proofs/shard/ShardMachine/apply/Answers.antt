use Rattle.std.proofs.Common.{◌≡◌, ◌∙◌, OnErr, ap, sym, subst}
use Rattle.coco_shard.specs.Kept.{kept_at}
use Rattle.coco_shard.specs.Memory.{TakesRoom}
use Rattle.coco_shard.specs.RowState.{ShardState}
use Rattle.coco_shard.specs.Table.{key_of, answer_in, after_ask}
use Rattle.coco_shard.proofs.Entries.{missing_or_on_err, said_on_err, read_answer, read_view}
use Rattle.coco_shard.proofs.shard.ShardMachine.apply.Goals as goal

pub returns-in-Some-clause-answer : goal.returns-in-Some-clause-answer
returns-in-Some-clause-answer c =
    c.read.ensures ∙ read_answer c.self.inside.rows.entries c.args.ask c.in-Read.field-0 c.in-Some.row.now c.in-Read.is (ap (kept_at c.self.inside.rows.entries) (sym c.key.ensures) ∙ sym c.in-Some.ensures.value)
    ∙ ap (λ (s : ShardState). answer_in s c.args.ask) c.self.view_is

pub returns-in-Some-clause-state : goal.returns-in-Some-clause-state
returns-in-Some-clause-state c =
    subst (λ (s : ShardState). s ≡ after_ask s c.args.ask) c.self.view_is
    (read_view c.self.inside.rows.entries c.args.ask c.in-Read.field-0 c.in-Some.row.now c.in-Read.is (ap (kept_at c.self.inside.rows.entries) (sym c.key.ensures) ∙ sym c.in-Some.ensures.value))

pub returns-in_err-act_on_missing-clause-missing : goal.returns-in_err-act_on_missing-clause-missing
returns-in_err-act_on_missing-clause-missing c =
    subst (λ (s : ShardState). OnErr c.from_residual.result (TakesRoom s c.args.ask.op)) c.self.view_is
    (missing_or_on_err _ c.from_residual.result c.self.inside.rows.entries (key_of c.args.ask.op) (said_on_err c.from_residual.result c.in_err-act_on_missing.ensures.acts.missing))
