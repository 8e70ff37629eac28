use Rattle.std.proofs.Common.{◌≡◌, ◌++◌, replicate}
use Rattle.std.specs.Io.KnownBytes.{Keeps}
use Rattle.coco_io.specs.declared.calls.Outcome.TheVariants.{Interrupted}
use Rattle.coco_io.proofs.stream.write_some.Given as goal

abbrev pub invariant-loop-turn : goal.invariant-loop-turn
invariant-loop-turn g l = record {
  kept : Keeps (g.W.Write.contents l.fn.to) (g.W.Write.contents l.to);
  cut : l.calls ≡ l.fn.calls ++ replicate l._turn Interrupted;
}
