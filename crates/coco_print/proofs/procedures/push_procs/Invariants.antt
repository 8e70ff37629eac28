use Rattle.std.proofs.Common.{◌≡◌, ◌++◌, drop, map}
use Rattle.std.specs.List.{flat_map}
use Rattle.std.specs.String.{string_bytes}
use Rattle.coco_ast.specs.Views.{procedure_of}
use Rattle.coco_print.specs.Printed.{procedure_text}
use Rattle.coco_print.proofs.procedures.push_procs.Given as goal

abbrev pub invariant-loop-proc : goal.invariant-loop-proc
invariant-loop-proc l = string_bytes l.out ++ flat_map procedure_text (map procedure_of (drop l.proc-index l.procs)) ≡ string_bytes l.initial.out ++ flat_map procedure_text (map procedure_of l.procs)
