use Rattle.std.proofs.Common.{◌≡◌, ◌++◌, drop, length, option_map}
use Rattle.serde_json.specs.View.{items_view}
use Rattle.coco_lines.specs.Reading.{args_of}
use Rattle.coco_lines.proofs.requests.args_of.Given as goal

-- the arguments so far stand before those of the items that are left
abbrev pub invariant-loop-item : goal.invariant-loop-item
invariant-loop-item l = record {
  so_far : args_of (items_view l.items) ≡ option_map (λ rest. l.args ++ rest) (args_of (items_view (drop l.item-index l.items)));
  count : length l.args ≡ l.item-index;
}
