use Rattle.std.proofs.Common.{◌≡◌, ◌++◌, drop}
use Rattle.std.specs.List.{flat_map}
use Rattle.std.specs.String.{string_bytes}
use Rattle.coco_print.specs.Printed.{further_param}
use Rattle.coco_print.proofs.procedures.push_params.Given as goal

abbrev pub invariant-loop-name : goal.invariant-loop-name
invariant-loop-name l = string_bytes l.out ++ flat_map further_param (drop l.name-index l.others) ≡ string_bytes l.initial.out ++ flat_map further_param l.others
