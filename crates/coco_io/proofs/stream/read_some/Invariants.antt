use Rattle.std.proofs.Common.{◌≡◌, ◌++◌, replicate}
use Rattle.std.specs.Io.KnownBytes.{Keeps}
use Rattle.coco_io.specs.declared.calls.Outcome.TheVariants.{Interrupted}
use Rattle.coco_io.proofs.stream.read_some.Given as goal

abbrev pub invariant-loop-turn : goal.invariant-loop-turn
invariant-loop-turn g l = record {
  kept : Keeps (g.R.Read.remaining l.fn.from) (g.R.Read.remaining l.from);
  cut : l.calls ≡ l.fn.calls ++ replicate l._turn Interrupted;
}
