use Rattle.std.proofs.Common.{◌≡◌, ◌++◌, drop}
use Rattle.std.specs.List.{flat_map}
use Rattle.std.specs.String.{string_bytes}
use Rattle.coco_print.specs.Printed.{table_text}
use Rattle.coco_print.proofs.procedures.push_tables.Given as goal

abbrev pub invariant-loop-name : goal.invariant-loop-name
invariant-loop-name l = string_bytes l.out ++ flat_map table_text (drop l.name-index l.names) ≡ string_bytes l.initial.out ++ flat_map table_text l.names
