use Rattle.std.proofs.Common.{◌∙◌, ◌++◌, ap}
use Rattle.json.specs.Print.{print}
use Rattle.coco_audit.proofs.LineLemmas.{on_both, printed}
use Rattle.coco_audit.specs.Texts.{not_serial_text, not_serial_json}
use Rattle.coco_audit.proofs.verify.write_not_serial.Goals as goal

pub returns-clause-ok : goal.returns-clause-ok
unfolding not_serial_text
returns-clause-ok c =
    let started = c.put_not_serial-put.ensures.before ∙ c.writer_over-writer.ensures.before in
    let items = c.into_inner.ensures.items ∙ ap (λ s. s ++ print c.put_not_serial-put.new.writer.tokens) started in
    on_both c.ended.result c.put_not_serial-put.result c.ended.ensures.whole c.ended.ensures.ok c.put_not_serial-put.ensures.ok
    (λ end all. printed _ _ _ _ _ (not_serial_json c.args.found.now) items c.writer_over-writer.ensures.tokens all end)
