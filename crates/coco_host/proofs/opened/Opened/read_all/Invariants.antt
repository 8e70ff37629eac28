use Rattle.std.proofs.Common.{◌≡◌, ◌≤◌, length}
use Rattle.coco_host.proofs.opened.Opened.read_all.Given as goal

abbrev pub invariant-loop-turn : goal.invariant-loop-turn
invariant-loop-turn l = record {
  within : l.done ≤ length l.into;
  room : length l.into ≡ length l.fn.into;
  none : l.calls.items ≡ l.fn.calls.items;
}
