use Rattle.std.proofs.Common.{sym, subst}
use Rattle.coco_journaled.specs.Passes.{IsPassOf}
use Rattle.coco_journaled.proofs.Closing.{begins}
use Rattle.coco_journaled.proofs.journaled.pass_of.Goals as goal

pub invariant_of-result : goal.invariant_of-result
invariant_of-result g c = (subst (λ n. IsPassOf n c.args.note c.args.places.items) (sym c.number.ensures) (begins c.args.note c.args.places.items c.requires.new c.requires.empty), c.requires.new.1)
