use Rattle.std.proofs.Common.{◌≡◌, ap, sym, ◌∙◌, arith}
use Rattle.coco_eval.specs.Keeping.{IsRunOf, standing_of}
use Rattle.coco_eval.specs.Standing.{Ready, Evaluation}
use Rattle.coco_eval.specs.declared.run.Stage.TheVariants as stage
use Rattle.coco_eval.proofs.StepLemmas.{room_in, steps_to_ask, steps_to_end, asked_says}
use Rattle.coco_eval.proofs.run.Run.next_key.Goals as goal
use Rattle.coco_eval.proofs.run.Run.next_key.Goals.{After-result-1, After-self-2-1}

pub advance-requires : goal.advance-requires
advance-requires c =
    let i = c.self.inside in
    let same : c.args.procs.now ≡ i.procs.value = c.requires.procs ∙ sym (ap (λ (e : Evaluation). e.procs) c.self.view_is) in
    let is : standing_of i.stage i.machine i.writes ≡ Ready = ap (λ (e : Evaluation). e.standing) c.self.view_is ∙ c.requires.ready in
    room_in c.args.procs.now i.procs.value i.call.value i.number i.machine i.spare i.writes i.stage same is c.self.invariant

asking : (c : After-result-1) → IsRunOf c.self.inside.procs.value c.self.inside.call.value c.self.inside.number c.advance.new.machine c.advance.new.spare c.self.inside.writes stage.Asking
asking c =
    let i = c.self.inside in
    let same : c.args.procs.now ≡ i.procs.value = c.requires.procs ∙ sym (ap (λ (e : Evaluation). e.procs) c.self.view_is) in
    let is : standing_of i.stage i.machine i.writes ≡ Ready = ap (λ (e : Evaluation). e.standing) c.self.view_is ∙ c.requires.ready in
    steps_to_ask c.args.procs.now i.procs.value i.call.value i.number i.machine c.advance.new.machine i.spare c.advance.new.spare i.writes i.stage same is c.self.invariant c.if-advance.ensures

pub invariant_of-self : goal.invariant_of-self
invariant_of-self c = asking c

pub returns-then-advance-clause-sound : goal.returns-then-advance-clause-sound
returns-then-advance-clause-sound c = asked_says c.self.inside.procs.value c.self.inside.call.value c.self.inside.number c.advance.new.machine c.advance.new.spare c.self.inside.writes (asking c)

pub returns-then-advance-clause-few : goal.returns-then-advance-clause-few
returns-then-advance-clause-few c = let few = (asking c).stands.few in omega (arith, few)

ended : (c : After-self-2-1) → IsRunOf c.self.inside.procs.value c.self.inside.call.value c.self.inside.number c.settle.new.machine c.advance.new.spare c.settle.new.settled stage.Ended
ended c =
    let i = c.self.inside in
    let same : c.args.procs.now ≡ i.procs.value = c.requires.procs ∙ sym (ap (λ (e : Evaluation). e.procs) c.self.view_is) in
    let is : standing_of i.stage i.machine i.writes ≡ Ready = ap (λ (e : Evaluation). e.standing) c.self.view_is ∙ c.requires.ready in
    steps_to_end c.args.procs.now i.procs.value i.call.value i.number i.machine c.advance.new.machine c.settle.new.machine i.spare c.advance.new.spare i.writes c.settle.new.settled i.stage same is c.self.invariant c.if-advance.ensures c.settle.ensures.others c.settle.ensures.writes

pub invariant_of-self-2 : goal.invariant_of-self-2
invariant_of-self-2 c = ended c

pub returns-clause-sound : goal.returns-clause-sound
returns-clause-sound c = (ended c).stands.ends

pub returns-clause-few : goal.returns-clause-few
returns-clause-few c = (ended c).stands.few
