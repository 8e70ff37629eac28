-- What a step answers of the standing that it leaves.
use Rattle.std.specs.Prelude.{◌≡◌, ⊤, ◌+◌, ◌≤◌, List, length, Option, Some, None}
use Rattle.coco_types.specs.Limits.{most_keys}
use Rattle.coco_types.specs.RowKey.{RowKey}
use Rattle.coco_types.specs.declared.call.Reply.{Reply}
use Rattle.coco_types.specs.declared.call.Write.{Write}
use Rattle.coco_eval.specs.Standing.{Standing, Ready, Asks, Ended, Evaluation}
use Rattle.coco_eval.specs.declared.run.Need.{Need}
use Rattle.coco_eval.specs.declared.run.Need.TheVariants as need

abbrev pub IsNeedOf : Standing → Need → Type 0
IsNeedOf s (need.Read k) = s ≡ Asks k
IsNeedOf s (need.Ended reply) = (writes : List Write) × (s ≡ Ended reply writes)

-- with the one that is asked for it has read and written no more keys than it may
abbrev pub HasFewKeys : Evaluation → Standing → Type 0
HasFewKeys e Ready = ⊤
HasFewKeys e (Asks k) = length e.given + 1 ≤ most_keys
HasFewKeys e (Ended reply writes) = length e.given + length writes ≤ most_keys

-- the key that a standing asks for next, none at the end
abbrev pub IsNextOf : Standing → Option RowKey → Type 0
IsNextOf s (Some k) = s ≡ Asks k
IsNextOf s None = (reply : Reply) × (writes : List Write) × (s ≡ Ended reply writes)
