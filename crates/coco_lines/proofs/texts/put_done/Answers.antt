use Rattle.std.proofs.Common.{◌++◌, ◌∙◌, codes, decimal, ap}
use Rattle.coco_lines.specs.Texts.{reply_text}
use Rattle.coco_lines.proofs.TextLemmas.{on_ok, five_pieces, done_is}
use Rattle.coco_lines.proofs.texts.put_done.Goals as goal

pub returns-clause-ok : goal.returns-clause-ok
returns-clause-ok c =
    let old = c.args.out.now.items in
    let done = c.args.done.now in
    let epoch = codes "{\"epoch\":" ++ decimal done.epoch in
    let id = codes ",\"id\":" ++ decimal done.id in
    let time = codes ",\"time\":" ++ decimal done.time in
    on_ok c.put.result c.put.ensures.ok
    (λ put. five_pieces old epoch id (reply_text done.reply) time (codes "}\n") c.put_count.new.out.items c.put_count-2.new.out.items c.put_reply.new.out.items c.put_count-3.new.out.items c.put.new.out.items
    c.in_ok-put_count.ensures.ok c.in_ok-put_count-2.ensures.ok c.in_ok-put_reply.ensures.ok c.in_ok-put_count-3.ensures.ok put
    ∙ ap (λ text. old ++ text) (done_is done))
