use Rattle.std.proofs.Common.{◌++◌, ◌∙◌, codes, ap, sym, append_assoc}
use Rattle.json.specs.Print.{quoted, escape_byte}
use Rattle.serde_json.specs.Written.{compact_text}
use Rattle.coco_lines.specs.Texts.{value_json, cause_word, reply_text}
use Rattle.coco_lines.proofs.TextLemmas.{on_ok}
use Rattle.coco_lines.proofs.texts.put_reply.Goals as goal

pub returns-in_ok-put-in-Ok-clause-ok : goal.returns-in_ok-put-in-Ok-clause-ok
unfolding escape_byte
returns-in_ok-put-in-Ok-clause-ok c =
    let text = compact_text (value_json c.in-Ok.value.now) in
    on_ok c.put_value.result c.put_value.ensures.ok
    (λ put. put ∙ ap (λ m. m ++ text) c.in_ok-put-in-Ok.ensures.ok ∙ append_assoc c.args.out.now.items (codes ",\"ok\":") text ∙ ap (λ r. c.args.out.now.items ++ reply_text r) (sym c.in-Ok.ensures))

pub returns-in_ok-put-in-Err-clause-ok : goal.returns-in_ok-put-in-Err-clause-ok
unfolding escape_byte
returns-in_ok-put-in-Err-clause-ok c =
    let text = quoted (cause_word c.in-Err.cause) in
    on_ok c.put_cause.result c.put_cause.ensures.ok
    (λ put. put ∙ ap (λ m. m ++ text) c.in_ok-put-in-Err.ensures.ok ∙ append_assoc c.args.out.now.items (codes ",\"refused\":") text ∙ ap (λ r. c.args.out.now.items ++ reply_text r) (sym c.in-Err.ensures))
