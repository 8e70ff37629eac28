use Rattle.std.proofs.Common.{◌≡◌, List, [], ◌∷◌, ◌++◌, ℕ, sym, subst, refl}
use Rattle.coco_append.proofs.GainLemmas.{on_ok}
use Rattle.coco_log.specs.Drafts.{Drafts}
use Rattle.coco_log.proofs.Changing.{changes_none}
use Rattle.coco_store.specs.Entries.{Values, base_bytes}
use Rattle.coco_ckpt.proofs.rows.add_rows.Goals as goal

pub returns-in_err-put_base_rows-clause-changes : goal.returns-in_err-put_base_rows-clause-changes
returns-in_err-put_base_rows-clause-changes g c = changes_none g.H.Host g.met.H.Host.only_now (c.args.draft.now.file ∷ []) c.args.host.now

pub returns-clause-drafts : goal.returns-clause-drafts
returns-clause-drafts g c =
    let is : c.as_slice.result.now ≡ base_bytes (Values c.args.rows.now) = rw (c.as_slice.ensures.value, c.in_ok-put_base_rows.ensures.ok, c.clear.ensures.items) refl in
    on_ok c.add_entry.result _ _ (λ adds bodies drafts. subst (λ (l : List ℕ). Drafts c.add_entry.new.draft (bodies ++ l ∷ []) (g.H.Host.reads c.add_entry.new.host)) is (adds bodies drafts)) c.add_entry.ensures.drafts
