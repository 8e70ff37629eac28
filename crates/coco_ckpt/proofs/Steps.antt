-- Logs and facts that stay while other files change.
use Rattle.std.proofs.Common.{◌≡◌, ℕ, false, List, Option, Some, None, refl, sym, subst, ◌∙◌}
use Rattle.coco_host.specs.Files.{Files, Become, Follows}
use Rattle.coco_entry.specs.Layouts.{is_named}
use Rattle.coco_log.specs.Changes.{SameBesides}
use Rattle.coco_log.specs.Drafts.{HasLog}
use Rattle.coco_log.specs.Grammar.{IsLog}
use Rattle.coco_entry.specs.declared.layout.Layout.{Layout}
use Rattle.coco_make.specs.NewStore.{AreEmptyLogs}
use Rattle.coco_make.specs.Steps.{HaveEmptyLogs}
use Rattle.coco_ckpt.specs.Writing.{HasEmptyLogs}

module _ (named : List ℕ) (left leaves : Files → Type 0) (follows : Follows (SameBesides named) left leaves) where
  -- a log in a file that isn't named
  pub log_besides : (kind : ℕ) (bodies : List (List ℕ)) (file : ℕ) (before after : Option Files) → is_named named file ≡ false → Become (SameBesides named) before after
      → HasLog kind bodies file before left → HasLog kind bodies file after leaves
  log_besides kind bodies file None after free become has = subst (λ (o : Option Files). HasLog kind bodies file o leaves) (sym become) tt
  log_besides kind bodies file (Some files) after free become has =
      subst (λ (o : Option Files). HasLog kind bodies file o leaves) (sym become.1) (record {
        log = subst (λ (l : List ℕ). IsLog kind bodies l) (sym (become.2 file free)) has.log;
        durable = λ image left_so. let from = follows image left_so in from.2 file free ∙ has.durable from.0 from.1 ∙ sym (become.2 file free);
      })

-- the logs without entries, as they were made
pub empty_logs : (layout : Layout) (before after : Option Files) (leaves : Files → Type 0) (named : List ℕ) → Become (SameBesides named) before after
    → ((files : Files) → before ≡ Some files → HaveEmptyLogs layout files after leaves) → HasEmptyLogs layout after leaves
empty_logs layout None after leaves named become made = subst (λ (o : Option Files). HasEmptyLogs layout o leaves) (sym become) tt
empty_logs layout (Some files) after leaves named become made = subst (λ (o : Option Files). HasEmptyLogs layout o leaves) (sym become.1) (λ image left. (made files refl).left image left)
