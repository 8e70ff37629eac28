use Rattle.std.proofs.Common.{List, ℕ, ◌∷◌, ◌++◌, [], take, ◌+◌, sym, ap, ◌∙◌, subst}
use Rattle.std.proofs.lemmas.List.{append-nil}
use Rattle.coco_types.specs.declared.call.Done.{Done}
use Rattle.coco_types.specs.declared.call.Request.{Request}
use Rattle.coco_occ.specs.declared.outcome.Tried.{Tried}
use Rattle.coco_order.specs.Outcome.{AreOnce}
use Rattle.coco_parallel.specs.Ends.{AreLeft}
use Rattle.coco_parallel.proofs.EndsLemmas.{dones_more, take_one}
use Rattle.coco_parallel.proofs.TakenLemmas.{dones_left, left_more, left_none, once_until}
use Rattle.coco_parallel.proofs.ends.take_from.Goals as goal

pub loop-script-init : goal.loop-script-init
loop-script-init c = record { dones = sym (append-nil c.args.dones.now.items); left = left_none c.args.requests.now }

pub loop-script-preserved : goal.loop-script-preserved
loop-script-preserved c =
    let n : ℕ = c.loop-script.script-index in
    let seen : List Tried = take n c.args.tried.now in
    let one : List Tried = c.script-item.result ∷ [] in
    let all = take_one c.args.tried.now n c.script-item.result c.loop-script-test.true c.script-item.is in
    let first : List Request = c.args.requests.now in
    let so_far = c.loop-script.invariant in
    let taken = c.in_ok-take_commit.ensures in
    let once : AreOnce (seen ++ one) = subst AreOnce all (once_until (n + 1) c.args.tried.now c.requires.once) in
    record {
      dones = dones_more c.args.epoch first c.args.dones.now.items c.loop-script.dones.items c.take_commit.new.dones.items seen one (take (n + 1) c.args.tried.now) so_far.dones
          (taken.dones ∙ ap (λ (ds : List Done). c.loop-script.dones.items ++ ds) (dones_left c.args.epoch seen one first c.loop-script.requests once so_far.left)) all;
      left = subst (λ (ts : List Tried). AreLeft ts first c.take_commit.new.requests) (sym all) (left_more seen one first c.loop-script.requests c.take_commit.new.requests so_far.left taken.left);
    }
