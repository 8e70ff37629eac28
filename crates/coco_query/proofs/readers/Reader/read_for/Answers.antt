use Rattle.std.proofs.Common.{List, [], length, refl, sym, ap, ◌∙◌, subst}
use Rattle.std.proofs.lemmas.List.{with_items_is}
use Rattle.std.proofs.lemmas.Option.{same_Some, slice_get_read}
use Rattle.coco_types.specs.declared.call.Request.{Request}
use Rattle.coco_eval.specs.Standing.{Evaluation, Ready}
use Rattle.coco_query.specs.Reading.{FrozenPass, Reads}
use Rattle.coco_query.specs.Readers.{reading_of}
use Rattle.coco_query.specs.declared.readers.Reader.{Reader}
use Rattle.coco_query.proofs.ServingLemmas.{both_points, ends_as, same_reply, served_by, served_one}
use Rattle.coco_query.proofs.readers.Reader.read_for.Goals as goal

pub returns-clause-read : goal.returns-clause-read
returns-clause-read g c =
    let a : Reader = c.args.self.now in
    let kept : Reader = c.keep.new.self in
    let request : Request = c.index-requests-place.result in
    let ended = c.in_ok-had.ensures.ended in
    let told = c.reply.ensures in
    let back = with_items_is a.passes c.read_all.new.passes (c.read_all.auto.passes ∙ c.as_mut_slice-passes.ensures.len) in
    let reply = c.in_ok-reply.ensures ∙ same_reply c.read_all.new.running ended.0 c.reply.result.now ended.1 told.0 ended.2 told.1 in (
      served_by c.args.place c.in_ok-had.had c.in_ok-reply.reply,
      refl,
      served_one c.args.procs.now c.args.requests.now (length c.args.tables.now) (g.G.Gate.named c.args.gate.now) a _ c.args.place request c.in_ok-had.had c.in_ok-reply.reply
          (slice_get_read c.args.requests.now (length c.args.requests.now) c.args.place request refl c.requires.there c.index-requests-place.is)
          (ends_as c.in-Some.running c.args.procs.now request.call c.in_ok-had.had ended.0 c.in_ok-reply.reply (same_Some _ _ (sym c.in-Some.is ∙ c.in_ok-make_ready.ensures) ∙ ap (λ (q : Request). let e : Evaluation = record { procs = c.args.procs.now; call = q.call; given = []; standing = Ready } in e) (sym c.index-requests-place.is)) ended.3 reply)
          c.in_ok-keep.ensures.readings c.in_ok-keep.ensures.replies
          (both_points (g.G.Gate.named c.args.gate.now) a.reader kept.reader a.transcript.passed c.pass.new.self kept.transcript.passed c.pass-2.new.self (reading_of (served_by c.args.place c.in_ok-had.had c.in_ok-reply.reply)) c.pass.ensures.more
          (ap (λ (r : Reader). r.transcript.passed) c.keep.ensures.others) (ap (λ (r : Reader). r.reader) c.keep.ensures.others) c.pass-2.ensures.more)
          (subst (λ (ps : List FrozenPass). Reads (length c.args.tables.now) a.passes.items ps c.in_ok-had.had) (sym (ap (λ (r : Reader). r.passes.items) c.keep.ensures.others ∙ back))
          (subst (λ (ps : List FrozenPass). Reads (length c.args.tables.now) ps c.read_all.new.passes c.in_ok-had.had) c.as_mut_slice-passes.ensures.value c.in_ok-had.ensures.reads)),
    )
