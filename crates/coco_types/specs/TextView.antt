-- How a text's bytes give its fields back.
use Rattle.std.specs.Prelude.{◌≡◌, length, take}
use Rattle.coco_types.specs.Limits.{most_text_bytes}
use Rattle.coco_types.specs.Padded.{padded, IsPadded, padded-take, length-padded}
use Rattle.coco_types.specs.declared.text.Text.TheInside.{Inside}

-- a text's fields follow from its bytes
pub text-view : (t : Inside) → IsPadded most_text_bytes t.len t.bytes → ◌≡◌ {A = Inside} (record { len = length (take t.len t.bytes); bytes = padded most_text_bytes (take t.len t.bytes) }) t
text-view t is i = record {
  len = length-padded most_text_bytes t.len t.bytes is i;
  bytes = padded-take most_text_bytes t.len t.bytes is i;
}
