use Rattle.std.proofs.Common.{List, ℕ, ◌++◌, take, ◌+◌, sym, ap, ◌∙◌, subst}
use Rattle.std.proofs.lemmas.List.{append-nil}
use Rattle.coco_types.specs.declared.call.Done.{Done}
use Rattle.coco_types.specs.declared.call.Request.{Request}
use Rattle.coco_occ.specs.declared.outcome.Tried.{Tried}
use Rattle.coco_order.specs.Execution.{concat}
use Rattle.coco_order.specs.Outcome.{AreOnce}
use Rattle.coco_parallel.specs.Ends.{AreLeft, dones_of}
use Rattle.coco_parallel.proofs.EndsLemmas.{concat_more, dones_more}
use Rattle.coco_parallel.proofs.TakenLemmas.{dones_left, left_more, left_none, once_behind, once_until_all}
use Rattle.coco_parallel.proofs.ends.take_commits.Goals as goal

pub take_from-requires : goal.take_from-requires
take_from-requires c =
    let n : ℕ = c.loop-transcript.transcript-index in
    let all = concat_more c.args.transcripts.now n c.transcript-item.result c.loop-transcript-test.true c.transcript-item.is in
    record { once = subst AreOnce (sym c.as_slice.ensures) (once_behind (concat (take n c.args.transcripts.now)) c.transcript-item.result (subst AreOnce all (once_until_all (n + 1) c.args.transcripts.now c.requires.once))) }

pub loop-transcript-init : goal.loop-transcript-init
loop-transcript-init c = record { dones = sym (append-nil c.args.dones.now.items); left = left_none c.args.requests.now }

pub loop-transcript-preserved : goal.loop-transcript-preserved
loop-transcript-preserved c =
    let n : ℕ = c.loop-transcript.transcript-index in
    let seen : List Tried = concat (take n c.args.transcripts.now) in
    let more : List Tried = c.transcript-item.result in
    let all = concat_more c.args.transcripts.now n more c.loop-transcript-test.true c.transcript-item.is in
    let first : List Request = c.args.requests.now in
    let so_far = c.loop-transcript.invariant in
    let taken = c.in_ok-take_from.ensures in
    let same = c.as_slice.ensures in
    let once : AreOnce (seen ++ more) = subst AreOnce all (once_until_all (n + 1) c.args.transcripts.now c.requires.once) in
    record {
      dones = dones_more c.args.epoch first c.args.dones.now.items c.loop-transcript.dones.items c.take_from.new.dones.items seen more (concat (take (n + 1) c.args.transcripts.now)) so_far.dones
          (taken.dones ∙ ap (λ (ts : List Tried). c.loop-transcript.dones.items ++ dones_of c.args.epoch c.loop-transcript.requests ts) same
          ∙ ap (λ (ds : List Done). c.loop-transcript.dones.items ++ ds) (dones_left c.args.epoch seen more first c.loop-transcript.requests once so_far.left)) all;
      left = subst (λ (ts : List Tried). AreLeft ts first c.take_from.new.requests) (sym all)
          (left_more seen more first c.loop-transcript.requests c.take_from.new.requests so_far.left (subst (λ (ts : List Tried). AreLeft ts c.loop-transcript.requests c.take_from.new.requests) same taken.left));
    }
