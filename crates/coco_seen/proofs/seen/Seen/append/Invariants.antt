use Rattle.std.specs.Prelude.{Some}
use Rattle.coco_seen.proofs.seen.Seen.append.Given as goal

abbrev pub ghosts-append_said : goal.ghosts-append_said
ghosts-append_said g a = record { entry = Some a.entry }
