use Rattle.coco_bytes.proofs.NumberLemmas.{u8_agrees, flag_agrees, u16_agrees, u32_agrees, u64_agrees, i64_agrees, text16_agrees}
use Rattle.coco_bytes.proofs.ValueLemmas.{key_agrees, value_agrees}
use Rattle.coco_bytes.proofs.laws.fields_read_back.Goals as goal

pub returns : goal.returns
returns c = record { byte = u8_agrees; flag = flag_agrees; two = u16_agrees; four = u32_agrees; eight = u64_agrees; signed = i64_agrees; counted = text16_agrees; key = key_agrees; value = value_agrees }
