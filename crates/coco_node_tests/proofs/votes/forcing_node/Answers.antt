use Rattle.std.proofs.Common.{◌≡◌, ◌<◌, ℕ, List, [], ◌∷◌, None, ap, arith, subst, sym, ◌∙◌}
use Rattle.std.specs.List.{slice_get}
use Rattle.coco_msg.specs.declared.message.Message.TheVariants.{Prepare}
use Rattle.coco_node.specs.Node.{restarted, Node}
use Rattle.coco_node.specs.Table.{handled, Turn}
use Rattle.coco_node_tests.proofs.votes.forcing_node.Goals as goal

pub returns-clause-forces : goal.returns-clause-forces
returns-clause-forces c =
    let core : c.handle.new.self ≡ record (restarted 0 [] None) { forcing = 1 } = ap (λ (turn : Turn). turn.1) (c.in_ok-handle.ensures.ok ∙ ap (handled 8 (Prepare 1)) (c.restart-core.ensures ∙ ap (λ (epochs : List ℕ). restarted 0 epochs None) c.new.ensures.items)) in
    record {
      core = c.handle.new.self;
      there = ap (λ (cores : List Node). slice_get cores 0) c.in_ok-cores.ensures;
      some = omega arith;
      forcing = ap (λ (x : Node). x.forcing) core;
      newer = subst (λ (x : Node). x.durable < 1) (sym core) (omega arith);
    }
