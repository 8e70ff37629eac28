-- How a name's bytes give its fields back.
use Rattle.std.specs.Prelude.{◌≡◌, length, take}
use Rattle.coco_types.specs.Padded.{padded, IsPadded, padded-take, length-padded}
use Rattle.coco_ast.specs.declared.name.TheConstants.{MOST_NAME_BYTES}
use Rattle.coco_ast.specs.declared.name.Name.TheInside.{Inside}

-- a name's fields follow from its bytes
pub name-view : (t : Inside) → IsPadded MOST_NAME_BYTES t.len t.bytes → ◌≡◌ {A = Inside} (record { len = length (take t.len t.bytes); bytes = padded MOST_NAME_BYTES (take t.len t.bytes) }) t
name-view t is i = record {
  len = length-padded MOST_NAME_BYTES t.len t.bytes is i;
  bytes = padded-take MOST_NAME_BYTES t.len t.bytes is i;
}
