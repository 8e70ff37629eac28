use Rattle.std.proofs.Common.{◌≡◌, List, [], ◌∷◌, ℕ, Some, ap, subst, sym, ◌∙◌}
use Rattle.coco_host.specs.Files.{Become, Files, put_into}
use Rattle.coco_log.specs.Changes.{ChangesOnly}
use Rattle.coco_log.specs.Drafts.{Drafted, Drafts, HasLog}
use Rattle.coco_log.proofs.Changing.{changes_then}
use Rattle.coco_log.proofs.Drafting.{changed, has_log}
use Rattle.coco_log.proofs.Others.{told_first, told_sync, left_first, left_sync}
use Rattle.coco_log.proofs.draft.Draft.finish.Goals as goal

pub returns-in_err-sync-clause-changes : goal.returns-in_err-sync-clause-changes
returns-in_err-sync-clause-changes g c =
    let R = g.H.Host.reads in
    let L = g.H.Host.may_leave in
    let f = c.self.inside.file in
    let s0 = c.args.host.now in
    let s1 = c.write.new.host in
    let s2 = c.sync.new.self in
    subst (λ (d : Drafted). ChangesOnly g.H.Host (d.file ∷ []) s0 s2) c.self.view_is
    (changes_then g.H.Host (f ∷ []) s0 s1 s2 c.write.ensures.changes (changed g.H.Host g.met.H.Host.only_now f s1 s2
    (told_sync f (R s1) (R s1) (R s2) (told_first f (R s1)) c.sync.ensures.same) (left_sync f (L s1) (L s1) (L s2) (left_first f (L s1)) c.sync.ensures.crash) c.sync.ensures.said c.sync.ensures.time))

pub returns-clause-changes : goal.returns-clause-changes
returns-clause-changes g c =
    let R = g.H.Host.reads in
    let L = g.H.Host.may_leave in
    let f = c.self.inside.file in
    let s0 = c.args.host.now in
    let s1 = c.write.new.host in
    let s2 = c.sync.new.self in
    subst (λ (d : Drafted). ChangesOnly g.H.Host (d.file ∷ []) s0 s2) c.self.view_is
    (changes_then g.H.Host (f ∷ []) s0 s1 s2 c.write.ensures.changes (changed g.H.Host g.met.H.Host.only_now f s1 s2
    (told_sync f (R s1) (R s1) (R s2) (told_first f (R s1)) c.sync.ensures.same) (left_sync f (L s1) (L s1) (L s2) (left_first f (L s1)) c.sync.ensures.crash) c.sync.ensures.said c.sync.ensures.time))

pub returns-clause-log : goal.returns-clause-log
returns-clause-log g c bodies drafts =
    let R = g.H.Host.reads in
    let L = g.H.Host.may_leave in
    let x = c.self.inside in
    let old : Drafted = record { file = x.file; kind = x.kind; written = x.written; rest = x.rest.items } in
    let s0 = c.args.host.now in
    let s1 = c.write.new.host in
    let s2 = c.sync.new.self in
    let was : Drafts old bodies (R s0) = subst (λ (d : Drafted). Drafts d bodies (R s0)) (sym c.self.view_is) drafts in
    let file_is : c.self-2.inside.file ≡ x.file = ap (λ (d : Drafted). d.file) (c.self-2.view_is) ∙ ap (λ (d : Drafted). d.file) c.in_ok-write.ensures.on in
    let wrote = subst (λ (l : List ℕ). Become (λ a b. b ≡ put_into x.file x.written l a) (R s0) (R s1)) c.in_ok-push.ensures.items c.in_ok-write.ensures.written in
    let durable = subst (λ (f : ℕ). (files : Files) → R s1 ≡ Some files → (image : Files) → L s2 image → image f ≡ files f) file_is c.in_ok-sync.ensures.durable in
    subst (λ (d : Drafted). HasLog d.kind bodies d.file (R s2) (L s2)) c.self.view_is
    (has_log old bodies (R s0) (R s1) (R s2) (L s2) wrote c.sync.ensures.same durable was)
