use Rattle.std.proofs.Common.{List, [], ◌∷◌, ◌++◌, ℕ, map, subst, sym, ap, ◌∙◌}
use Rattle.coco_append.proofs.GainLemmas.{on_ok}
use Rattle.coco_log.specs.Changes.{ChangesOnly}
use Rattle.coco_log.specs.Drafts.{Drafted, HasLog}
use Rattle.coco_log.proofs.Changing.{changes_none, changes_then}
use Rattle.coco_store.specs.Entries.{base_bytes, base_kind}
use Rattle.coco_ckpt.proofs.base.write_base.Goals as goal

pub returns-in_err-draft-clause-changes : goal.returns-in_err-draft-clause-changes
returns-in_err-draft-clause-changes g c = changes_none g.H.Host g.met.H.Host.only_now (c.args.file ∷ []) c.args.host.now

pub fill-requires-clause-drafts : goal.fill-requires-clause-drafts
fill-requires-clause-drafts g c = c.in_ok-draft.ensures.none (g.H.Host.reads c.args.host.now)

pub finish-requires : goal.finish-requires
finish-requires g c = record { drafts = (_, c.in_ok-fill.ensures.drafts.drafts) }

pub returns-in_err-fill-clause-changes : goal.returns-in_err-fill-clause-changes
returns-in_err-fill-clause-changes g c =
    subst (λ (d : Drafted). ChangesOnly g.H.Host (d.file ∷ []) c.args.host.now c.fill.new.host) c.in_ok-draft.ensures.draft c.fill.ensures.changes

pub returns-clause-base : goal.returns-clause-base
returns-clause-base g c =
    on_ok c.finish.result _ _ (λ logs.
    let base = c.in_ok-fill.ensures.drafts in
    let kind = c.in_ok-fill.ensures.of.1 ∙ ap (λ (d : Drafted). d.kind) c.in_ok-draft.ensures.draft in
    let file = c.in_ok-fill.ensures.of.0 ∙ ap (λ (d : Drafted). d.file) c.in_ok-draft.ensures.draft in
    record {
      entries = base.entries;
      is = base.is;
      are = base.are;
      log = subst (λ (k : ℕ). HasLog k (map base_bytes base.entries) c.args.file (g.H.Host.reads c.finish.new.host) (g.H.Host.may_leave c.finish.new.host)) kind
          (subst (λ (f : ℕ). HasLog c.fill.new.draft.kind (map base_bytes base.entries) f (g.H.Host.reads c.finish.new.host) (g.H.Host.may_leave c.finish.new.host)) file (logs (map base_bytes base.entries) base.drafts));
    }) c.finish.ensures.log

pub returns-clause-changes : goal.returns-clause-changes
returns-clause-changes g c =
    let file = c.in_ok-fill.ensures.of.0 ∙ ap (λ (d : Drafted). d.file) c.in_ok-draft.ensures.draft in
    changes_then g.H.Host (c.args.file ∷ []) c.args.host.now c.fill.new.host c.finish.new.host
    (subst (λ (d : Drafted). ChangesOnly g.H.Host (d.file ∷ []) c.args.host.now c.fill.new.host) c.in_ok-draft.ensures.draft c.fill.ensures.changes)
    (subst (λ (f : ℕ). ChangesOnly g.H.Host (f ∷ []) c.fill.new.host c.finish.new.host) file c.finish.ensures.changes)
