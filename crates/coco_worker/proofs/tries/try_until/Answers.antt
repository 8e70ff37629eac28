use Rattle.std.proofs.Common.{length, refl, sym, ◌∙◌, subst, arith}
use Rattle.std.proofs.lemmas.Bool.{false≢true}
use Rattle.std.proofs.lemmas.List.{append-nil}
use Rattle.coco_desks.proofs.GainLemmas.{still_of}
use Rattle.coco_occ.specs.declared.outcome.Outcome.{Outcome}
use Rattle.coco_occ.specs.declared.outcome.Outcome.TheVariants.{Committed, Conflict, OverTime}
use Rattle.coco_worker.specs.Trying.{TriesOnce}
use Rattle.coco_worker.proofs.TryLemmas.{only_then, over_once_ended, same_worker, so_far_more, so_far_none, tries_out}
use Rattle.coco_worker.proofs.tries.try_until.Goals as goal

pub try_once-requires-clause-locks : goal.try_once-requires-clause-locks
try_once-requires-clause-locks g c = still_of c.args.shards.now c.args.slot.now.passes.items c.attempts.slot.passes.items c.requires.locks c.attempts.invariant.same

pub attempts-init : goal.attempts-init
attempts-init g c = record {
  some = c.requires.attempts;
  same = refl;
  others = refl;
  over = c.requires.over;
  gated = λ is. is;
  so_far = so_far_none c.args.procs.now c.args.request.now c.args.place (length c.args.shards.now) c.args.attempts c.args.slot.now c.args.ends.now c.requires.empty;
}

pub returns-in-Committed-clause-tried : goal.returns-in-Committed-clause-tried
returns-in-Committed-clause-tried g c =
    let outcome : Outcome = Committed c.in-Committed.time c.in-Committed.reply in
    tries_out c.args.procs.now c.args.request.now c.args.place (length c.args.shards.now) c.args.attempts c.attempts.left c.args.slot.now c.attempts.slot c.try_once.new.slot c.attempts.ends c.attempts.ends c.try_once.new.room outcome
    c.attempts.invariant.same (same_worker c.args.slot.now c.attempts.slot c.attempts.invariant.others) c.attempts.invariant.so_far
    (subst (TriesOnce c.args.procs.now c.args.request.now c.args.place (length c.args.shards.now) c.attempts.slot c.try_once.new.slot c.try_once.new.room) c.in-Committed.is c.in_ok-outcome.ensures.tried)
    (sym (append-nil c.attempts.ends)) c.attempts.invariant.some (λ h. absurd (false≢true h))

pub returns-in-OverTime-clause-tried : goal.returns-in-OverTime-clause-tried
returns-in-OverTime-clause-tried g c =
    tries_out c.args.procs.now c.args.request.now c.args.place (length c.args.shards.now) c.args.attempts c.attempts.left c.args.slot.now c.attempts.slot c.try_once.new.slot c.attempts.ends c.push-in-OverTime.new.self c.try_once.new.room OverTime
    c.attempts.invariant.same (same_worker c.args.slot.now c.attempts.slot c.attempts.invariant.others) c.attempts.invariant.so_far
    (subst (TriesOnce c.args.procs.now c.args.request.now c.args.place (length c.args.shards.now) c.attempts.slot c.try_once.new.slot c.try_once.new.room) c.in-OverTime.is c.in_ok-outcome.ensures.tried)
    c.in_ok-push-in-OverTime.ensures.ok c.attempts.invariant.some (λ h. absurd (false≢true h))

pub returns-then-left-eq0-clause-tried : goal.returns-then-left-eq0-clause-tried
returns-then-left-eq0-clause-tried g c =
    tries_out c.args.procs.now c.args.request.now c.args.place (length c.args.shards.now) c.args.attempts c.attempts.left c.args.slot.now c.attempts.slot c.try_once.new.slot c.attempts.ends c.push.new.self c.try_once.new.room (Conflict c.in-Conflict.why)
    c.attempts.invariant.same (same_worker c.args.slot.now c.attempts.slot c.attempts.invariant.others) c.attempts.invariant.so_far
    (subst (TriesOnce c.args.procs.now c.args.request.now c.args.place (length c.args.shards.now) c.attempts.slot c.try_once.new.slot c.try_once.new.room) c.in-Conflict.is c.in_ok-outcome.ensures.tried)
    c.in_ok-push-in-Conflict.ensures.ok c.attempts.invariant.some (λ _. omega arith)

pub attempts-preserved : goal.attempts-preserved
attempts-preserved g c =
    let before = c.attempts.invariant in
    let tried = c.in_ok-outcome.ensures.tried in
    record {
      some = omega arith;
      same = c.try_once.ensures.same ∙ before.same;
      others = only_then c.args.slot.now c.attempts.slot c.try_once.new.slot before.others c.try_once.ensures.others;
      over = over_once_ended c.try_once.new.room c.in_ok-outcome.outcome tried.writes tried.ended;
      gated = λ is. c.in_ok-outcome.ensures.gated (before.gated is);
      so_far = so_far_more c.args.procs.now c.args.request.now c.args.place (length c.args.shards.now) c.args.attempts c.attempts.left _ c.args.slot.now c.attempts.slot c.try_once.new.slot c.attempts.ends c.push.new.self c.try_once.new.room (Conflict c.in-Conflict.why)
          before.same (same_worker c.args.slot.now c.attempts.slot before.others) before.so_far
          (subst (TriesOnce c.args.procs.now c.args.request.now c.args.place (length c.args.shards.now) c.attempts.slot c.try_once.new.slot c.try_once.new.room) c.in-Conflict.is tried) refl c.in_ok-push-in-Conflict.ensures.ok (omega arith);
    }

pub returns-in-Committed-clause-gated : goal.returns-in-Committed-clause-gated
returns-in-Committed-clause-gated g c = λ is. c.in_ok-outcome.ensures.gated (c.attempts.invariant.gated is)

pub returns-in-OverTime-clause-gated : goal.returns-in-OverTime-clause-gated
returns-in-OverTime-clause-gated g c = λ is. c.in_ok-outcome.ensures.gated (c.attempts.invariant.gated is)

pub returns-then-left-eq0-clause-gated : goal.returns-then-left-eq0-clause-gated
returns-then-left-eq0-clause-gated g c = λ is. c.in_ok-outcome.ensures.gated (c.attempts.invariant.gated is)
