use Rattle.coco_ast.proofs.WordTexts.{word_is_text}
use Rattle.coco_ast.proofs.name.Name.as_str.Goals as goal

pub from_utf8_unchecked-requires : goal.from_utf8_unchecked-requires
from_utf8_unchecked-requires c = word_is_text c.as_bytes-bytes.result.now c.as_bytes-bytes.ensures.word
