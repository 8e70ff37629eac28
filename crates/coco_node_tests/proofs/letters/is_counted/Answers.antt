use Rattle.std.proofs.Common.{◌≡◌, List, [], ◌∷◌, ap, arith, refl, subst, sym, ◌∙◌}
use Rattle.coco_msg.specs.declared.action.Action.{Action}
use Rattle.coco_msg.specs.declared.action.Action.TheVariants.{Send}
use Rattle.coco_msg.specs.declared.message.Message.TheVariants.{Prepare}
use Rattle.coco_chief.specs.Chief.{Chief}
use Rattle.coco_chief.specs.Shown.{chief_of}
use Rattle.coco_chief.specs.Table.{begun, Turn}
use Rattle.coco_letters.specs.Saying.{AreToSay}
use Rattle.coco_node_tests.proofs.letters.is_counted.Goals as goal

pub send_actions-requires-clause-messages : goal.send_actions-requires-clause-messages
send_actions-requires-clause-messages g c =
    let said : c.deref.result.now ≡ Send 0 (Prepare 1) ∷ [] = c.deref.ensures.value ∙ ap (λ (turn : Turn). turn.0) (c.in_ok-actions.ensures.ok ∙ ap (λ (chief : Chief). begun 1 chief) c.requires.chief) in
    subst AreToSay (sym said) (omega arith, record { is = omega arith; commit = refl }, tt)

pub listens-requires : goal.listens-requires
listens-requires g c =
    let one : (chief_of c.begin.new.self).nodes ≡ 1 = ap (λ (turn : Turn). turn.1.nodes) (c.in_ok-actions.ensures.ok ∙ ap (λ (chief : Chief). begun 1 chief) c.requires.chief) in
    omega arith
