use Rattle.std.proofs.Common.{◌++◌, ap, ◌∙◌}
use Rattle.coco_lines.proofs.TextLemmas.{on_ok}
use Rattle.json.specs.Tree.{json_tokens}
use Rattle.serde_json.specs.Written.{outline}
use Rattle.coco_types.specs.RowKey.{RowKey}
use Rattle.coco_audit.specs.Texts.{dump_row_json}
use Rattle.coco_audit.proofs.Tokens.{behind}
use Rattle.coco_audit.proofs.dump.put_row.Goals as goal

pub returns-clause-ok : goal.returns-clause-ok
returns-clause-ok c = on_ok c.end_object.result c.end_object.ensures.ok (λ end. end ∙ (behind c.key.new.self.tokens c.put_value.new.writer.tokens _ _ _ c.in_ok-put_value.ensures.ok (behind c.put_table.new.writer.tokens c.key.new.self.tokens _ _ _ c.in_ok-key.ensures.ok (behind c.put_count.new.writer.tokens c.put_table.new.writer.tokens _ _ _ c.in_ok-put_table.ensures.ok (behind c.begin_object.new.self.tokens c.put_count.new.writer.tokens _ _ _ c.in_ok-put_count.ensures.ok (behind c.args.writer.now.tokens c.begin_object.new.self.tokens _ _ _ c.in_ok-begin_object.ensures.ok
    (ap (λ (k : RowKey). c.args.writer.now.tokens ++ json_tokens (outline (dump_row_json c.args.procs.now (k, c.args.value.now)))) c.at.view_is)))))))
