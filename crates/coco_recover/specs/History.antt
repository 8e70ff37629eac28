-- What is had of a store before its nodes' files.
use Rattle.std.specs.Prelude.{◌≡◌, ℕ, Bool, true, false, Option, None}
use Rattle.std.specs.List.{flat_map}
use Rattle.coco_host.specs.Files.{Files}
use Rattle.coco_entry.specs.declared.layout.LayoutEntry.{LayoutEntry}
use Rattle.coco_log.specs.LogState.{IsFresh, IsOpened}
use Rattle.coco_store.specs.Entries.{commits_kind, layouts_kind}
use Rattle.coco_store.specs.Rules.{base_values}
use Rattle.coco_recover.specs.Bases.{entries_of}
use Rattle.coco_recover.specs.Commits.{AreCommitted}
use Rattle.coco_recover.specs.Layouts.{IsGoodLast, setting_of}
use Rattle.coco_recover.specs.Steps.{HoldsCommitted, HoldsLast, HoldsParts, IsLeft}
use Rattle.coco_recover.specs.declared.history.StoreHistory.{StoreHistory}

-- of how many epochs the replies are kept: of all, or of as many as the layout says
abbrev pub kept_by : Bool → LayoutEntry → Option ℕ
kept_by true entry = None
kept_by false entry = entry.keep

-- the layout is good, the committed epochs go on from a base with these rows, and the logs are of their files
pub record IsHistoryRead (history : StoreHistory) : Type 0 where
  pub good : IsGoodLast history.last
  pub committed : AreCommitted (setting_of history.last) history.committed
  pub values : flat_map (λ rows. rows) history.rows.items ≡ base_values (entries_of history.committed.base.items)
  pub root : IsFresh history.root 0 layouts_kind
  pub chief : IsFresh history.chief history.last.entry.layout.chief_file commits_kind

-- the files hold it, and a crash leaves them as they read
pub record IsHistoryHeld (files : Files) (may_leave : Files → Type 0) (history : StoreHistory) : Type 0 where
  pub last : HoldsLast files history.last
  pub base : HoldsParts files history.last history.committed.base.items
  pub commits : HoldsCommitted files history.last history.committed
  pub root : IsOpened history.root files may_leave
  pub chief : IsOpened history.chief files may_leave
  pub base_left : IsLeft history.last.entry.base_file files may_leave
