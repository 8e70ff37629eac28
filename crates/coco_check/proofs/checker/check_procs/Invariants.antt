use Rattle.std.proofs.Common.{◌≡◌, ◌≤◌, ◌+◌, length, map, take, drop, vec_len}
use Rattle.std.specs.Vec.{vec_capacity}
use Rattle.coco_ast.specs.Plans.{ArePlansOf}
use Rattle.coco_ast.specs.Views.{procedure_of}
use Rattle.coco_check.specs.Search.{first_of_procedures}
use Rattle.coco_check.proofs.checker.check_procs.Given as goal

-- the first error of the procedures behind is that of all; those before have their plans
abbrev pub invariant-loop-proc : goal.invariant-loop-proc
invariant-loop-proc l = record {
  item : l.item ≡ l.first + l.proc-index;
  found :
      first_of_procedures l.tables.keys l.names.keys l.item (map procedure_of (drop l.proc-index l.procs))
      ≡ first_of_procedures l.tables.keys l.fn.names.keys l.first (map procedure_of l.procs);
  plans : ArePlansOf (map procedure_of (take l.proc-index l.procs)) l.plans.items;
  room : (vec_len l.plans ≡ l.proc-index) × (length l.procs ≤ vec_capacity l.plans);
}
