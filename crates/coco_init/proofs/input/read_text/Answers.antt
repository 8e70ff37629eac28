use Rattle.std.proofs.Common.{◌≡◌, ◌<◌, ◌∙◌, length, take, arith}
use Rattle.coco_init.proofs.InputLemmas.{front_of, front_short}
use Rattle.coco_init.proofs.input.read_text.Goals as goal

pub returns-clause-takes : goal.returns-clause-takes
returns-clause-takes g c =
    let count = c.in_ok-count.count in
    let full : length c.fill.new.into ≡ c.in_ok-bytes.bytes.len = c.fill.auto.into ∙ c.as_mut_slice.ensures.len in
    let text = c.from_vec.ensures ∙ c.truncate.ensures.items ∙ front_of count c.in_ok-bytes.bytes.len c.fill.new.into _ full in
    let room : count < length c.fill.new.into = omega (arith, c.in_ok-bytes.ensures.len, c.if-count-gt-MOST_PROCEDURE_BYTES.false, full) in
    record {
      bytes = take count c.fill.new.into;
      gives = c.in_ok-count.ensures.gives;
      reads = (text, front_short count _ c.fill.new.into c.if-count-gt-MOST_PROCEDURE_BYTES.false, c.in_ok-count.ensures.end room);
    }
