use Rattle.std.proofs.Common.{List, [], ◌∷◌, ◌++◌, ℕ, map, subst, sym, ◌∙◌}
use Rattle.coco_append.proofs.GainLemmas.{on_both, on_ok}
use Rattle.coco_log.specs.Changes.{ChangesOnly}
use Rattle.coco_log.proofs.Changing.{changes_then}
use Rattle.coco_ckpt.proofs.Putting.{both_added}
use Rattle.coco_ckpt.proofs.base.add_items.Goals as goal

pub write_rows-requires : goal.write_rows-requires
write_rows-requires g c =
    let before = c.requires.drafts in
    let added = c.in_ok-write_dones.ensures.dones before.0 before.1 in
    record { drafts = (_, added.drafts) }

pub returns-clause-items : goal.returns-clause-items
returns-clause-items g c =
    on_ok c.write_rows.result _ _ (λ adds bodies drafts.
    let dones = c.in_ok-write_dones.ensures.dones bodies drafts in
    both_added _ _ bodies _ _ _ _ dones (adds _ dones.drafts)) c.write_rows.ensures.rows

pub returns-clause-of : goal.returns-clause-of
returns-clause-of g c = on_ok c.write_rows.result _ _ (λ of. (of.0 ∙ c.in_ok-write_dones.ensures.of.0, of.1 ∙ c.in_ok-write_dones.ensures.of.1)) c.write_rows.ensures.of

pub returns-clause-changes : goal.returns-clause-changes
returns-clause-changes g c =
    let file = c.args.draft.now.file in
    changes_then g.H.Host (file ∷ []) c.args.host.now c.write_dones.new.host c.write_rows.new.host c.write_dones.ensures.changes
    (subst (λ (f : ℕ). ChangesOnly g.H.Host (f ∷ []) c.write_dones.new.host c.write_rows.new.host) c.in_ok-write_dones.ensures.of.0 c.write_rows.ensures.changes)
