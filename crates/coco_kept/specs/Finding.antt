-- What an id and a call are to the kept Dones.
use Rattle.std.specs.Prelude.{◌≡◌, ℕ, true, false, None, Some}
use Rattle.coco_types.specs.declared.call.Call.{Call}
use Rattle.coco_types.specs.declared.call.Done.{Done}
use Rattle.coco_ast.specs.History.{done_of, is_up_to}
use Rattle.coco_kept.specs.Keeping.{Keeping}
use Rattle.coco_kept.specs.declared.kept.Found.{Found}
use Rattle.coco_kept.specs.declared.kept.Found.TheVariants.{New, Same, Reused, Old}

-- a held id goes by the call of its Done, and any other one by the floor
abbrev pub IsFound : Keeping → ℕ → Call → Found → Type 0
IsFound k id call New = (done_of id k.dones ≡ None) × (is_up_to k.floor id ≡ false)
IsFound k id call Same = (done : Done) × (done_of id k.dones ≡ Some done) × (done.call ≡ call)
IsFound k id call Reused = (done : Done) × (done_of id k.dones ≡ Some done) × (¬ (done.call ≡ call))
IsFound k id call Old = (done_of id k.dones ≡ None) × (is_up_to k.floor id ≡ true)
