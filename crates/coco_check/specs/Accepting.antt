-- Which trees are checked, and what is said of a refusal.
use Rattle.std.specs.Prelude.{◌<◌, ◌^◌, length}
use Rattle.std.specs.List.{All}
use Rattle.coco_ast.specs.Checks.{statements_in}
use Rattle.coco_ast.specs.Tree.{Procedures}
use Rattle.coco_ast.specs.declared.error.CheckError.{CheckError}
use Rattle.coco_check.specs.declared.fault.CheckFault.{CheckFault}
use Rattle.coco_check.specs.declared.fault.CheckFault.TheVariants.{Refused, NoMemory}

-- each statement has a number of 32 bits
abbrev pub HasFewStatements : Procedures → Type 0
HasFewStatements t = All (λ p. length (statements_in p) < 2 ^ 32) t.procs

abbrev pub OnRefused : CheckFault → (CheckError → Type 0) → Type 0
OnRefused (Refused e) P = P e
OnRefused NoMemory P = Unit {0}
