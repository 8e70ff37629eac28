-- An attempt at its start may take turns.
use Rattle.std.proofs.Common.{◌≡◌, ℕ, ◌≤◌, [], refl, sym, subst}
use Rattle.coco_types.specs.declared.call.AttemptId.{AttemptId}
use Rattle.coco_types.specs.declared.call.Call.{Call}
use Rattle.coco_ast.specs.Tree.{Procedures}
use Rattle.coco_occ.specs.Interleaving.{MayPlay}
use Rattle.coco_occ.specs.Trying.{Trying, Ready}

pub started : (ps : Procedures) (call : Call) (by : AttemptId) (n : ℕ) (a : Trying) → 1 ≤ n → a ≡ record { procs = ps; call = call; by = by; partitions = n; script = []; standing = Ready } → MayPlay ps n a
started ps call by n a some is = subst (MayPlay ps n) (sym is) (record { some_shards = some; procs_are = refl; partitions_are = refl; free = tt })
