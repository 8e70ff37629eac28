use Rattle.std.proofs.Common.{◌≡◌, ◌++◌, replicate, arith, ap, inr, ◌∙◌}
use Rattle.coco_io.specs.declared.calls.Outcome.TheVariants.{Interrupted}
use Rattle.coco_io.proofs.stream.write_some.Goals as goal

pub returns-clause-tried : goal.returns-clause-tried
returns-clause-tried g c =
    let all : c.loop-turn._turn ≡ 64 = omega arith in
    inr (c.loop-turn.invariant.cut ∙ ap (λ n. c.args.calls.now ++ replicate n Interrupted) all)
