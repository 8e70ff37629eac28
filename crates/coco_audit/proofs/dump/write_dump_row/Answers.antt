use Rattle.std.proofs.Common.{◌∙◌, ◌++◌, ap}
use Rattle.json.specs.Print.{print}
use Rattle.coco_audit.proofs.LineLemmas.{on_both, printed}
use Rattle.coco_audit.specs.Texts.{dump_row_text, dump_row_json}
use Rattle.coco_audit.proofs.dump.write_dump_row.Goals as goal

pub returns-clause-ok : goal.returns-clause-ok
unfolding dump_row_text
returns-clause-ok c =
    let started = c.put_row-put.ensures.before ∙ c.writer_over-writer.ensures.before in
    let items = c.into_inner.ensures.items ∙ ap (λ s. s ++ print c.put_row-put.new.writer.tokens) started in
    on_both c.ended.result c.put_row-put.result c.ended.ensures.whole c.ended.ensures.ok c.put_row-put.ensures.ok
    (λ end all. printed _ _ _ _ _ (dump_row_json c.args.procs.now (c.args.key, c.args.value.now)) items c.writer_over-writer.ensures.tokens all end)
