use Rattle.std.proofs.Common.{◌≡◌, not}
use Rattle.std.specs.List.{filter, range_with_len}
use Rattle.coco_entry.specs.Layouts.{is_named}
use Rattle.coco_make.proofs.free.unnamed.Given as goal

abbrev pub invariant-loop-place : goal.invariant-loop-place
invariant-loop-place l = l.free.items ≡ filter (λ f. not (is_named l.named f)) (range_with_len 1 l.place)
