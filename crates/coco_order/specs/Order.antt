-- Dones in the order in which they are serial.
use Rattle.std.specs.Prelude.{List, [], ◌∷◌}
use Rattle.std.specs.List.{AllByRecursion}
use Rattle.coco_types.specs.declared.call.Done.{Done}
use Rattle.coco_ast.specs.History.{IsBefore}

-- none is by epoch, time and id before one that stands in front of it
abbrev pub AreInOrder : List Done → Type 0
AreInOrder [] = Unit {0}
AreInOrder (d ∷ ds) = AllByRecursion (λ e. IsBefore e d → ⊥) ds × AreInOrder ds
