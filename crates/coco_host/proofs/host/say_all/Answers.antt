use Rattle.std.proofs.Common.{sym, ◌∙◌, refl, arith}
use Rattle.coco_io.proofs.KnownLemmas.{append_known-nil}
use Rattle.coco_io.proofs.PartLemmas.{Took-more}
use Rattle.coco_host.proofs.Saying.{none_said, more_said, no_more_said}
use Rattle.coco_host.proofs.host.say_all.Goals as goal

pub loop-done-init : goal.loop-done-init
loop-done-init g c =
    let host = c.args.host.now in
    record {
      took = record { within = omega arith; taken = sym (append_known-nil (g.H.Host.said host)); counted = refl };
      same = refl;
      others = refl;
      crash = λ files left. left;
      sees = none_said g.H.Host host (g.met.H.Host.only_now host);
    }

pub loop-done-preserved : goal.loop-done-preserved
loop-done-preserved g c =
    let before = c.loop-done.invariant in
    let said = c.in_ok-done.ensures in
    record {
      took = Took-more _ _ _ _ _ _ _ _ _ before.took said.count said.bytes said.counts;
      same = said.same ∙ before.same;
      others = said.others ∙ before.others;
      crash = λ files left. before.crash files (said.crash files left);
      sees = more_said g.H.Host _ _ _ _ _ before.sees before.took.taken said.bytes before.crash said.crash said.time;
    }

pub returns-in_err-done-clause-sees : goal.returns-in_err-done-clause-sees
returns-in_err-done-clause-sees g c =
    let before = c.loop-done.invariant in
    let said = c.in_err-done.ensures in
    no_more_said g.H.Host _ _ _ _ before.sees before.took.taken said.err before.crash said.crash said.time
