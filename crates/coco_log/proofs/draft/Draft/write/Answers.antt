use Rattle.std.proofs.Common.{[], ◌∷◌, subst}
use Rattle.coco_log.specs.Changes.{ChangesOnly}
use Rattle.coco_log.specs.Drafts.{Drafted}
use Rattle.coco_log.proofs.Drafting.{changed}
use Rattle.coco_log.proofs.Others.{told_first, told_torn, told_write, left_first, left_write}
use Rattle.coco_log.proofs.draft.Draft.write.Goals as goal

pub returns-in_err-write_at-clause-changes : goal.returns-in_err-write_at-clause-changes
returns-in_err-write_at-clause-changes g c =
    let R = g.H.Host.reads in
    let L = g.H.Host.may_leave in
    let N = g.met.H.Host.only_now in
    let f = c.self.inside.file in
    let s0 = c.args.host.now in
    let s1 = c.write_at.new.self in
    subst (λ (d : Drafted). ChangesOnly g.H.Host (d.file ∷ []) s0 s1) c.self.view_is
    (changed g.H.Host N f s0 s1 (told_torn f (R s0) (R s0) (R s1) _ _ (told_first f (R s0)) c.in_err-write_at.ensures.refused)
    (left_write f (L s0) (L s0) (L s1) _ _ (left_first f (L s0)) c.write_at.ensures.crash) c.write_at.ensures.said c.write_at.ensures.time)

pub returns-clause-changes : goal.returns-clause-changes
returns-clause-changes g c =
    let R = g.H.Host.reads in
    let L = g.H.Host.may_leave in
    let N = g.met.H.Host.only_now in
    let f = c.self.inside.file in
    let s0 = c.args.host.now in
    let s1 = c.write_at.new.self in
    subst (λ (d : Drafted). ChangesOnly g.H.Host (d.file ∷ []) s0 s1) c.self.view_is
    (changed g.H.Host N f s0 s1 (told_write f (R s0) (R s0) (R s1) c.self.inside.written c.deref.result.now (told_first f (R s0)) c.in_ok-write_at.ensures.written)
    (left_write f (L s0) (L s0) (L s1) _ _ (left_first f (L s0)) c.write_at.ensures.crash) c.write_at.ensures.said c.write_at.ensures.time)
