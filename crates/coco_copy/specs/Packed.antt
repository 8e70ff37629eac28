-- What is kept packed, as contracts see it.
use Rattle.coco_copy.specs.declared.ops.CopyAsk.{CopyAsk}
use Rattle.coco_copy.specs.declared.ops.CopyAsk.TheVariants.{Put}
use Rattle.coco_copy.specs.declared.packed.PackedPut.{PackedPut}

abbrev pub put_of : PackedPut → CopyAsk
put_of p = Put p.epoch p.time (record { key = p.key; value = p.value })
