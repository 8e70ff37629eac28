use Rattle.std.proofs.Common.{◌≡◌, ap, sym, cond, ◌∙◌, Some}
use Rattle.std.specs.Option.{unwrap_or}
use Rattle.coco_shard.specs.Kept.{kept_at, state_of}
use Rattle.coco_rows.specs.declared.Row.{Row}
use Rattle.coco_shard.specs.Table.{answer_at, leaves_row, left_by}
use Rattle.coco_types.proofs.Keys.{is_key}
use Rattle.coco_shard.proofs.Entries.{acts_refused, leaves_made, made_view, unmade_view, missing_answer}
use Rattle.coco_shard.proofs.table.act_on_missing.Goals as goal

pub returns-then-not-leaves_row-clause-acts : goal.returns-then-not-leaves_row-clause-acts
returns-then-not-leaves_row-clause-acts c =
    let told : c.act.new.answer ≡ _ = c.act.ensures.told ∙ ap (λ row. answer_at (state_of row) c.args.ask.now.by c.args.ask.now.op) c.without_value-row.ensures in
    record {
      answer = missing_answer c.args.rows.now.entries c.args.ask.now c.act.new.answer c.requires.missing told;
      state = unmade_view c.args.rows.now.entries c.args.ask.now c.act.new.answer c.requires.missing told (sym c.leaves_row.ensures ∙ c.if-not-leaves_row.true);
      err = tt;
      missing = tt;
      makes = tt;
    }

pub returns-clause-acts : goal.returns-clause-acts
returns-clause-acts c =
    let made : Row = c.touch.new.row in
    let told : c.act.new.answer ≡ _ = c.act.ensures.told ∙ ap (λ row. answer_at (state_of row) c.args.ask.now.by c.args.ask.now.op) c.without_value-row.ensures in
    record {
      answer = missing_answer c.args.rows.now.entries c.args.ask.now c.act.new.answer c.requires.missing told;
      state = made_view c.args.rows.now.entries c.add_row.new.rows.entries c.args.ask.now c.act.new.answer made c.requires.missing told
          (sym c.leaves_row.ensures ∙ c.if-not-leaves_row.false)
          (c.touch.ensures.state ∙ c.act.ensures.left ∙ ap (λ row. unwrap_or (left_by c.act.new.answer c.args.ask.now.by c.args.ask.now.op (state_of row)) (state_of row)) c.without_value-row.ensures)
          (λ q. c.in_ok-add_row.ensures.ok q ∙ ap (λ k. cond (is_key k q) (Some made) (kept_at c.args.rows.now.entries q)) c.key.ensures);
      err = tt;
      missing = tt;
      makes = tt;
    }

pub returns-in_err-add_row-clause-acts : goal.returns-in_err-add_row-clause-acts
returns-in_err-add_row-clause-acts c =
    let told : c.act.new.answer ≡ _ = c.act.ensures.told ∙ ap (λ row. answer_at (state_of row) c.args.ask.now.by c.args.ask.now.op) c.without_value-row.ensures in
    acts_refused c.args.rows.now.entries c.add_row.new.rows.entries c.args.ask.now c.act.new.answer c.from_residual.result c.from_residual.ensures.0 c.in_err-add_row.ensures.err c.requires.missing
    (leaves_made c.args.ask.now.by c.args.ask.now.op (sym (ap leaves_row told) ∙ sym c.leaves_row.ensures ∙ c.if-not-leaves_row.false))
