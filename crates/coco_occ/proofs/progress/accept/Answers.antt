use Rattle.std.proofs.Common.{Bool, ◌++◌, ◌∷◌, [], None, Some, refl, sym, ◌∙◌, subst}
use Rattle.coco_shard.specs.declared.ops.Op.{Op}
use Rattle.coco_shard.specs.declared.ops.Op.TheVariants.{Read, Past}
use Rattle.coco_occ.specs.Course.{exchange}
use Rattle.coco_occ.specs.Exchange.{MayAnswer}
use Rattle.coco_occ.specs.Keeping.{IsReading, Goes}
use Rattle.coco_occ.specs.declared.course.Stage.TheVariants as stage
use Rattle.coco_occ.proofs.AttemptLemmas.{asks_read, asks_past}
use Rattle.coco_occ.proofs.ProgressLemmas.{goes_at, taken}
use Rattle.coco_occ.proofs.progress.accept.Goals as goal

pub accept_read-requires : goal.accept_read-requires
accept_read-requires c =
    let q = c.requires in
    let h = asks_read c.args.course.now.stage q.0 c.args.run.now q.1 c.args.course.now q.2 c.in-Read.key (subst (λ (o : Op). Goes q.0 c.args.run.now q.1 c.args.course.now q.2 (Some o)) c.in-Read.is q.4) in
    (q.1, q.3, h.reads, subst (λ (o : Op). MayAnswer (record { by = q.3; op = o }) c.args.answer.now) c.in-Read.is q.5)

pub accept_past-requires : goal.accept_past-requires
accept_past-requires c =
    let q = c.requires in
    let h = asks_past c.args.course.now.stage q.0 c.args.run.now q.1 c.args.course.now q.2 c.in-Past.field-0 (subst (λ (o : Op). Goes q.0 c.args.run.now q.1 c.args.course.now q.2 (Some o)) c.in-Past.is q.4) in
    (c.args.course.now, c.in-Past.field-0, q.1, q.3, h.reads, subst (λ (o : Op). MayAnswer (record { by = q.3; op = o }) c.args.answer.now) c.in-Past.is q.5)

pub returns-in-Read-clause-goes : goal.returns-in-Read-clause-goes
returns-in-Read-clause-goes c snapshot before reply by goes may =
    let h = asks_read c.args.course.now.stage snapshot c.args.run.now before c.args.course.now reply c.in-Read.key (subst (λ (o : Op). Goes snapshot c.args.run.now before c.args.course.now reply (Some o)) c.in-Read.is goes) in
    let L = before ++ exchange (Read c.in-Read.key) c.args.answer.now ∷ [] in
    subst (λ (o : Op). Goes snapshot c.accept_read.new.run (before ++ exchange o c.args.answer.now ∷ []) c.accept_read.new.course reply None) (sym c.in-Read.is)
    (goes_at snapshot c.accept_read.new.run L c.accept_read.new.course reply None stage.Reading (c.accept_read.ensures.stage ∙ h.stage_is)
    (subst (λ (b : Bool). IsReading b c.accept_read.new.run L c.accept_read.new.course None) (sym h.snapshot_is) (c.accept_read.ensures.goes before h.reads)))

pub returns-in-Past-clause-goes : goal.returns-in-Past-clause-goes
returns-in-Past-clause-goes c snapshot before reply by goes may =
    let h = asks_past c.args.course.now.stage snapshot c.args.run.now before c.args.course.now reply c.in-Past.field-0 (subst (λ (o : Op). Goes snapshot c.args.run.now before c.args.course.now reply (Some o)) c.in-Past.is goes) in
    let L = before ++ exchange (Past c.in-Past.field-0) c.args.answer.now ∷ [] in
    subst (λ (o : Op). Goes snapshot c.accept_past.new.run (before ++ exchange o c.args.answer.now ∷ []) c.args.course.now reply None) (sym c.in-Past.is)
    (goes_at snapshot c.accept_past.new.run L c.args.course.now reply None stage.Reading h.stage_is
    (subst (λ (b : Bool). IsReading b c.accept_past.new.run L c.args.course.now None) (sym h.snapshot_is) (c.accept_past.ensures.goes c.args.course.now c.in-Past.field-0 before h.reads)))

pub returns-in_default : goal.returns-in_default
returns-in_default c = record {
  goes = λ snapshot before reply by goes may.
      taken snapshot c.args.run.now before c.args.course.now c.take.new.self reply c.args.asked.now c.args.answer.now c.in_default.not-Read c.in_default.not-Past goes (λ r m s. c.take.ensures.stands r m by before s may);
  stage = c.take.ensures.stage;
  procs = refl;
  call = refl;
}
