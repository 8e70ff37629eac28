-- Entries of a map that are sorted, one behind another.
use Rattle.std.proofs.Common.{◌≡◌, Bool, T, true, false, ◌&&◌, List, [], ◌∷◌, refl}
use Rattle.std.specs.List.{AllByRecursion}
use Rattle.std.specs.FinMap.Entries.{below_all}
use Rattle.std.specs.Ordering.{is_lt}
use Rattle.std.specs.declared.cmp.Ordering.{Ordering}
use Rattle.std.specs.declared.cmp.Ordering.TheVariants.{Equal, Greater, Less}
use Rattle.coco_types.specs.RowKey.{RowKey, key_cmp}
use Rattle.coco_types.specs.declared.value.Value.{Value}

abbrev Row : Type 0
Row = RowKey × Value

pub left_of : (a b : Bool) → T (a && b) → T a
left_of true b h = tt
left_of false b h = absurd h

pub right_of : (a b : Bool) → T (a && b) → T b
right_of true b h = h
right_of false b h = absurd h

is_less : (o : Ordering) → T (is_lt o) → o ≡ Less
is_less Less h = refl
is_less Equal h = absurd h
is_less Greater h = absurd h

pub below_each : (k : RowKey) (es : List Row) → T (below_all key_cmp k es) → AllByRecursion (λ (e : Row). key_cmp k e.0 ≡ Less) es
below_each k [] h = tt
below_each k (e ∷ es) h = (is_less (key_cmp k e.0) (left_of (is_lt (key_cmp k e.0)) (below_all key_cmp k es) h), below_each k es (right_of (is_lt (key_cmp k e.0)) (below_all key_cmp k es) h))
