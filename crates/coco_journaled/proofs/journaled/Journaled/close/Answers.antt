use Rattle.std.proofs.Common.{◌≡◌, length, All, Some, ap, sym, subst, ◌∙◌}
use Rattle.std.specs.Prelude.{slice_get}
use Rattle.coco_seen.specs.Notes.{ComesFrom}
use Rattle.coco_seen.specs.Rules.{once_below}
use Rattle.coco_journaled.specs.Packing.{unpacked}
use Rattle.coco_journaled.specs.Passes.{HasPasses, entry_of}
use Rattle.coco_journaled.specs.Replay.{Replays}
use Rattle.coco_journaled.proofs.Closing.{all_placed, sum_of_places, sum_of_lengths}
use Rattle.coco_journaled.proofs.Picking.{has_passes}
use Rattle.coco_journaled.proofs.journaled.Journaled.close.Goals as goal

pub returns-clause-machine : goal.returns-clause-machine
returns-clause-machine g c =
    subst (λ j. All (λ p. ComesFrom (λ root m. Replays g.M.Machine.answer_to g.M.Machine.state_after root j m) p.root c.close_of-machine.result.machine) c.args.passes.items) (sym c.of.ensures) c.close_of-machine.ensures.from

pub returns-clause-placed : goal.returns-clause-placed
returns-clause-placed g c =
    subst (λ j. All (λ p. All (λ call. slice_get j call.place ≡ Some (entry_of p.number call)) p.calls) c.args.passes.items) (sym c.of.ensures) (all_placed (unpacked g.M.Packs.ask_of g.M.Packs.answer_of c.close_of-machine.result.journal.items) c.args.passes.items c.close_of-machine.ensures.placed)

pub returns-clause-once : goal.returns-clause-once
returns-clause-once g c = λ place. sym (sum_of_places place c.args.passes.items) ∙ (c.close_of-machine.ensures.once place ∙ ap (λ j. once_below place (length j)) (sym c.of.ensures))

pub returns-clause-sized : goal.returns-clause-sized
returns-clause-sized g c = ap length c.of.ensures ∙ (c.close_of-machine.ensures.sized ∙ sum_of_lengths c.args.passes.items)

pub returns-clause-passes : goal.returns-clause-passes
returns-clause-passes g c = λ named.
    subst (HasPasses c.args.passes.items) (sym c.of.ensures)
    (has_passes c.args.passes.items (unpacked g.M.Packs.ask_of g.M.Packs.answer_of c.close_of-machine.result.journal.items) (all_placed (unpacked g.M.Packs.ask_of g.M.Packs.answer_of c.close_of-machine.result.journal.items) c.args.passes.items c.close_of-machine.ensures.placed) c.close_of-machine.ensures.facts
    (λ place. sym (sum_of_places place c.args.passes.items) ∙ c.close_of-machine.ensures.once place) named)
