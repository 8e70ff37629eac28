use Rattle.std.proofs.Common.{refl, ◌∙◌}
use Rattle.coco_lines.proofs.TextLemmas.{on_ok}
use Rattle.coco_audit.proofs.Tokens.{behind}
use Rattle.coco_audit.proofs.verify.put_not_serial.Goals as goal

pub returns-clause-ok : goal.returns-clause-ok
returns-clause-ok c = on_ok c.end_object.result c.end_object.ensures.ok (λ end. end ∙ (behind c.put_member-2.new.writer.tokens c.put_count-2.new.writer.tokens _ _ _ c.in_ok-put_count-2.ensures.ok (behind c.put_count.new.writer.tokens c.put_member-2.new.writer.tokens _ _ _ c.in_ok-put_member-2.ensures.ok (behind c.put_member.new.writer.tokens c.put_count.new.writer.tokens _ _ _ c.in_ok-put_count.ensures.ok (behind c.begin_object.new.self.tokens c.put_member.new.writer.tokens _ _ _ c.in_ok-put_member.ensures.ok (behind c.args.writer.now.tokens c.begin_object.new.self.tokens _ _ _ c.in_ok-begin_object.ensures.ok refl))))))
