use Rattle.std.proofs.Common.{◌≡◌, ◌≤◌, ◌-◌, ◌++◌, length}
use Rattle.coco_bytes.proofs.ListLemmas.{with_front}
use Rattle.coco_entry.specs.Layouts.{files_at}
use Rattle.coco_entry.proofs.layout.get_files.Given as goal

abbrev pub invariant-loop : goal.invariant-loop
invariant-loop l = record {
  so_far : with_front l.files (files_at l.named (l.count - l.counter) l.from l.end) ≡ files_at l.fn.named l.count l.from l.at;
  named : l.named ≡ l.fn.named ++ l.files;
  within : l.end ≤ length l.from;
}
