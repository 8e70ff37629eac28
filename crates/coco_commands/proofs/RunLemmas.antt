-- What is carried from the opening of a store to the end of its run.
use Rattle.std.proofs.Common.{◌≡◌, ℕ, List, Result, subst}
use Rattle.coco_cluster.specs.Around.{Around}
use Rattle.coco_cluster.specs.declared.stop.Stop.{Stop}
use Rattle.coco_lines.specs.Reads.{SourceMoment}
use Rattle.coco_serve.specs.Serving.{HasCause, Outside}

-- a cause since the opening is one since entry, where no count of the host's moved before
pub cause_from : (next : ℕ) (bytes : List ℕ) (source : SourceMoment) (faults say disk later_say later_disk : ℕ) (around : Around) (after : Outside) (served : Result (Unit {0}) Stop) → later_say ≡ say → later_disk ≡ disk
    → HasCause next bytes (record { source = source; source_faults = faults; say_faults = later_say; disk_faults = later_disk; around = around }) after served
    → HasCause next bytes (record { source = source; source_faults = faults; say_faults = say; disk_faults = disk; around = around }) after served
cause_from next bytes source faults say disk later_say later_disk around after served same_say same_disk cause =
    subst (λ (n : ℕ). HasCause next bytes (record { source = source; source_faults = faults; say_faults = n; disk_faults = disk; around = around }) after served) same_say
    (subst (λ (n : ℕ). HasCause next bytes (record { source = source; source_faults = faults; say_faults = later_say; disk_faults = n; around = around }) after served) same_disk cause)
