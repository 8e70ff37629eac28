use Rattle.std.proofs.Common.{◌≡◌, take}
use Rattle.coco_types.proofs.args.Args.try_clone.Given as goal

-- the arguments so far are copied
abbrev pub invariant-loop-argument : goal.invariant-loop-argument
invariant-loop-argument l = l.items.items ≡ take l.argument-index l.argument-items
