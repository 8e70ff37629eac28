use Rattle.std.proofs.Common.{refl, ◌∙◌}
use Rattle.coco_lines.proofs.TextLemmas.{on_ok}
use Rattle.coco_audit.proofs.Tokens.{behind}
use Rattle.coco_audit.proofs.dump.put_done.Goals as goal

pub returns-clause-ok : goal.returns-clause-ok
returns-clause-ok c = on_ok c.end_object.result c.end_object.ensures.ok (λ end. end ∙ (behind c.boolean.new.self.tokens c.put_count-3.new.writer.tokens _ _ _ c.in_ok-put_count-3.ensures.ok (behind c.key-2.new.self.tokens c.boolean.new.self.tokens _ _ _ c.in_ok-boolean.ensures.ok (behind c.put_kept.new.writer.tokens c.key-2.new.self.tokens _ _ _ c.in_ok-key-2.ensures.ok (behind c.put_count-2.new.writer.tokens c.put_kept.new.writer.tokens _ _ _ c.in_ok-put_kept.ensures.ok (behind c.put_count.new.writer.tokens c.put_count-2.new.writer.tokens _ _ _ c.in_ok-put_count-2.ensures.ok (behind c.put_proc.new.writer.tokens c.put_count.new.writer.tokens _ _ _ c.in_ok-put_count.ensures.ok (behind c.put_args.new.writer.tokens c.put_proc.new.writer.tokens _ _ _ c.in_ok-put_proc.ensures.ok (behind c.key.new.self.tokens c.put_args.new.writer.tokens _ _ _ c.in_ok-put_args.ensures.ok (behind c.begin_object.new.self.tokens c.key.new.self.tokens _ _ _ c.in_ok-key.ensures.ok (behind c.args.writer.now.tokens c.begin_object.new.self.tokens _ _ _ c.in_ok-begin_object.ensures.ok refl)))))))))))
