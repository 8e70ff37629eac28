use Rattle.std.proofs.Common.{[], ◌∷◌, ◌≤◌, length, sym, ◌∙◌, arith}
use Rattle.coco_entry.specs.declared.base.TheConstants.{MOST_ITEMS}
use Rattle.coco_log.proofs.Changing.{changes_none}
use Rattle.coco_append.proofs.GainLemmas.{on_both}
use Rattle.coco_store.specs.Entries.{Dones}
use Rattle.coco_ckpt.proofs.Putting.{added_all, added_last, none_there, some_there}
use Rattle.coco_ckpt.proofs.dones.end_dones.Goals as goal

pub returns-then-is_empty-clause-changes : goal.returns-then-is_empty-clause-changes
returns-then-is_empty-clause-changes g c = changes_none g.H.Host g.met.H.Host.only_now (c.args.draft.now.file ∷ []) c.args.host.now

pub returns-then-is_empty-clause-added : goal.returns-then-is_empty-clause-added
returns-then-is_empty-clause-added g c items bodies put = added_all Dones items bodies c.args.draft.now (g.H.Host.reads c.args.host.now) c.args.dones.now (none_there c.args.dones.now (sym c.is_empty.ensures ∙ c.if-is_empty.true)) put

pub returns-clause-added : goal.returns-clause-added
returns-clause-added g c =
    let below = c.requires.few in
    let few : length c.args.dones.now ≤ MOST_ITEMS = omega (arith, below) in
    on_both c.add_dones.result _ _ _ (λ adds is items bodies put.
    added_last Dones items bodies c.args.draft.now c.add_dones.new.draft (g.H.Host.reads c.args.host.now) (g.H.Host.reads c.add_dones.new.host) c.args.dones.now (some_there c.args.dones.now (sym c.is_empty.ensures ∙ c.if-is_empty.false)) few is adds put)
    c.add_dones.ensures.drafts c.add_dones.ensures.is
