-- The rows of a map of lent values, and how many they are.
use Rattle.std.proofs.Common.{◌≡◌, List, length, map, sym, ap, ◌∙◌}
use denote.Ref.{Bor}
use Rattle.std.specs.BTreeMap.{BTreeMap}
use Rattle.std.specs.FinMap.{entries}
use Rattle.std.specs.List.Sorted.{IsStrictlySortedBy}
use Rattle.std.specs.Map.{keys_of}
use Rattle.std.proofs.lemmas.List.{length-map}
use Rattle.coco_types.specs.RowKey.{RowKey, key_cmp}
use Rattle.coco_types.specs.declared.value.Value.{Value}
use Rattle.coco_load.specs.RowMaps.{lent_map}
use Rattle.coco_load.proofs.LentMaps.{lent_entries}

abbrev pub shown : List (RowKey × Bor Value) → List (RowKey × Value)
shown es = map (λ e. (e.0, e.1.now)) es

pub lent_count : (m : BTreeMap RowKey (Bor Value)) → IsStrictlySortedBy key_cmp (keys_of m.entries) → length (entries (lent_map m)) ≡ length m.entries
lent_count m rising = ap length (sym (lent_entries m rising)) ∙ length-map m.entries (λ e. (e.0, e.1.now))
