use Rattle.std.proofs.Common.{◌≡◌, ◌<◌, ℕ, get_or, nat_eq, false}
use Rattle.coco_host.specs.declared.held.MemoryFile.{MemoryFile}
use Rattle.coco_host.proofs.held.place_of.Given as goal

abbrev pub invariant-loop-place : goal.invariant-loop-place
invariant-loop-place l = (k : ℕ) (d : MemoryFile) → k < l.place → nat_eq (get_or l.files k d).number l.number ≡ false
