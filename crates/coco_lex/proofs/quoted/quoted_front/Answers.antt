use Rattle.std.proofs.Common.{◌≡◌, ◌<◌, length, get_or, arith}
use Rattle.coco_lex.specs.Bytes.{quote}
use Rattle.coco_lex.proofs.Texts.{long_text, text_front, bad_text}
use Rattle.coco_lex.proofs.quoted.quoted_front.Goals as goal
use Rattle.coco_lex.proofs.quoted.quoted_front.Goals.{else-content-rest-via-then-content-rest+else-rest-content-eq34, else-content-rest-via-else-content-rest}

pub returns-then-content-gt-MOST_TEXT_BYTES : goal.returns-then-content-gt-MOST_TEXT_BYTES
returns-then-content-gt-MOST_TEXT_BYTES c = long_text c.args.rest.now c.content_of-content.result.end c.content_of-content.result.count c.requires c.content_of-content.ensures c.if-content-rest.true c.if-rest-content-eq34.true c.if-content-gt-MOST_TEXT_BYTES.true

pub returns-then-rest-content-eq34 : goal.returns-then-rest-content-eq34
returns-then-rest-content-eq34 c = text_front c.args.rest.now c.content_of-content.result.end c.content_of-content.result.count c.requires c.content_of-content.ensures c.if-content-rest.true c.if-rest-content-eq34.true c.if-content-gt-MOST_TEXT_BYTES.false

pub returns-then-is_closed : goal.returns-then-is_closed
returns-then-is_closed c =
    let unquoted : c.content_of-content.result.end < length c.args.rest.now → get_or c.args.rest.now c.content_of-content.result.end 0 ≡ quote → ⊥ = λ within q. elim c.else-content-rest.branch [
      | else-content-rest-via-then-content-rest+else-rest-content-eq34 w ↦ w.if-rest-content-eq34.false q
      | else-content-rest-via-else-content-rest w ↦ omega arith
    ] in
    bad_text c.args.rest.now c.content_of-content.result.end c.content_of-content.result.count c.content_of-content.ensures (c.is_closed.ensures.0 c.if-is_closed.true) unquoted
