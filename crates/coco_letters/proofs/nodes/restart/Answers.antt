use Rattle.std.proofs.Common.{ℕ, List, ap, ◌∙◌}
use Rattle.std.proofs.Math.ListN.{set}
use Rattle.coco_node.specs.Node.{restarted, Node}
use Rattle.coco_letters.proofs.WorldLemmas.{stop_goes, stop_prepares}
use Rattle.coco_letters.proofs.nodes.restart.Goals as goal

pub returns-clause-cores : goal.returns-clause-cores
returns-clause-cores c = ap (λ (core : Node). set c.args.cores.now c.args.node core) (c.restart.ensures ∙ ap (λ (epochs : List ℕ). restarted c.args.node epochs c.args.lost) c.in_ok-epochs.ensures)

pub returns-clause-stays : goal.returns-clause-stays
returns-clause-stays c = λ core chief sent there same.
    stop_goes c.args.node c.args.durable c.args.lost c.args.cores.now (set c.args.cores.now c.args.node c.restart.result) core chief sent c.requires
    (ap (λ (fresh : Node). set c.args.cores.now c.args.node fresh) (c.restart.ensures ∙ ap (λ (epochs : List ℕ). restarted c.args.node epochs c.args.lost) c.in_ok-epochs.ensures)) there same

pub returns-clause-prepares : goal.returns-clause-prepares
returns-clause-prepares c = λ core chief sent there same above.
    stop_prepares c.args.node c.args.durable c.args.lost c.args.cores.now (set c.args.cores.now c.args.node c.restart.result) core chief sent c.requires
    (ap (λ (fresh : Node). set c.args.cores.now c.args.node fresh) (c.restart.ensures ∙ ap (λ (epochs : List ℕ). restarted c.args.node epochs c.args.lost) c.in_ok-epochs.ensures)) there same above
