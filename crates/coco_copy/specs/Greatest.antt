-- The greatest write time: a choice from a whole list of puts.
use Rattle.std.specs.Prelude.{ℕ, ◌==◌, ◌&&◌, max, List, [], ◌∷◌, Option, None, Some, find, if◌then◌else◌}
use Rattle.std.specs.List.{filter_map}
use Rattle.std.specs.BTreeMap.{is_at}
use Rattle.coco_types.specs.RowKey.{RowKey, key_cmp}
use Rattle.coco_types.specs.declared.value.Value.{Value}
use Rattle.coco_copy.specs.declared.ops.CopyAsk.{CopyAsk}
use Rattle.coco_copy.specs.declared.ops.CopyAsk.TheVariants.{Put}

-- the time and the value of a put of this epoch on this key
abbrev pub put_on : ℕ → RowKey → CopyAsk → Option (ℕ × Option Value)
put_on current k (Put epoch time write) = if (epoch == current) && is_at (key_cmp k) write.key then Some (time, write.value) else None

-- all of them, in order
abbrev pub puts_on : ℕ → RowKey → List CopyAsk → List (ℕ × Option Value)
puts_on current k asks = filter_map (put_on current k) asks

abbrev pub greatest_time : List (ℕ × Option Value) → ℕ
greatest_time [] = 0
greatest_time (p ∷ ps) = max p.0 (greatest_time ps)

-- the first of those with the greatest time
abbrev pub greatest_put : List (ℕ × Option Value) → Option (ℕ × Option Value)
greatest_put ps = find (λ p. p.0 == greatest_time ps) ps
