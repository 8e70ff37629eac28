use Rattle.std.proofs.Common.{◌≡◌, List, [], ◌∷◌, ◌++◌, ℕ, Option, length, subst, sym, ◌∙◌, rules}
use Rattle.std.specs.FinMap.{entries}
use Rattle.std.specs.List.Sorted.{IsStrictlySortedBy}
use Rattle.std.specs.Map.{keys_of}
use Rattle.coco_types.specs.RowKey.{key_cmp}
use Rattle.coco_append.proofs.GainLemmas.{on_ok}
use Rattle.coco_log.specs.Changes.{ChangesOnly}
use Rattle.coco_log.proofs.Changing.{changes_then}
use Rattle.coco_load.specs.RowMaps.{lent_map}
use Rattle.coco_entry.specs.declared.base.BaseHead.{BaseHead}
use Rattle.coco_ckpt.specs.Writing.{DraftsBase}
use Rattle.coco_ckpt.proofs.Lent.{lent_count}
use Rattle.coco_ckpt.proofs.Putting.{base_drafted}
use Rattle.coco_ckpt.proofs.base.fill.Goals as goal

pub add_head-requires : goal.add_head-requires
add_head-requires g c = ([], c.requires.drafts)

pub add_items-requires-clause-drafts : goal.add_items-requires-clause-drafts
add_items-requires-clause-drafts g c = (_, c.in_ok-add_head.ensures.drafts [] c.requires.drafts)

pub returns-clause-drafts : goal.returns-clause-drafts
returns-clause-drafts g c =
    let rows = c.args.rows.now in
    let dones = c.args.kept.now.dones in
    let reads = g.H.Host.reads c.add_items.new.host in
    let rising : IsStrictlySortedBy key_cmp (keys_of rows.entries) = search rules in
    let count : c.len-2.result ≡ length (entries (lent_map rows)) = c.len-2.ensures.len ∙ sym (lent_count rows rising) in
    let head : BaseHead = record { epoch = c.args.epoch; floor = c.floor.result; dones = c.len.result; rows = c.len-2.result } in
    on_ok c.add_items.result _ _ (λ adds.
    subst (λ (f : Option ℕ). DraftsBase c.args.epoch f dones (entries (lent_map rows)) c.add_items.new.draft reads) c.floor.ensures
    (base_drafted head dones (entries (lent_map rows)) c.add_items.new.draft reads c.len.ensures.len count (adds _ (c.in_ok-add_head.ensures.drafts [] c.requires.drafts)) c.in_ok-add_head.ensures.is)) c.add_items.ensures.items

pub returns-clause-of : goal.returns-clause-of
returns-clause-of g c = on_ok c.add_items.result _ _ (λ of. (of.0 ∙ c.in_ok-add_head.ensures.of.0, of.1 ∙ c.in_ok-add_head.ensures.of.1)) c.add_items.ensures.of

pub returns-clause-changes : goal.returns-clause-changes
returns-clause-changes g c =
    let file = c.args.draft.now.file in
    changes_then g.H.Host (file ∷ []) c.args.host.now c.add_head.new.host c.add_items.new.host c.add_head.ensures.changes
    (subst (λ (f : ℕ). ChangesOnly g.H.Host (f ∷ []) c.add_head.new.host c.add_items.new.host) c.in_ok-add_head.ensures.of.0 c.add_items.ensures.changes)
