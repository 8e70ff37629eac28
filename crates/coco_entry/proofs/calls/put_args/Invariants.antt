use Rattle.std.proofs.Common.{length}
use Rattle.coco_bytes.specs.Fields.{u8_bytes}
use Rattle.coco_bytes.specs.Values.{value_bytes, IsValue}
use Rattle.coco_entry.proofs.FitLemmas.{IsPut}
use Rattle.coco_entry.proofs.calls.put_args.Given as goal

abbrev pub invariant-loop-argument : goal.invariant-loop-argument
invariant-loop-argument l = IsPut value_bytes IsValue l.fn.out.items (u8_bytes (length l.args)) l.args l.argument-index l.out.items
