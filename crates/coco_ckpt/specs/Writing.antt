-- What a draft of a base file has so far, and the files that a store is made small into.
use Rattle.std.specs.Prelude.{◌≡◌, ℕ, List, ◌++◌, length, map, flat_map, Option, IfSome}
use Rattle.std.specs.List.{AllByRecursion}
use Rattle.coco_types.specs.RowKey.{RowKey}
use Rattle.coco_types.specs.declared.call.Done.{Done}
use Rattle.coco_types.specs.declared.value.Value.{Value}
use Rattle.coco_host.specs.Files.{Files}
use Rattle.coco_entry.specs.declared.base.TheConstants.{MOST_ITEMS}
use Rattle.coco_entry.specs.declared.layout.Layout.{Layout}
use Rattle.coco_log.specs.Drafts.{Drafted, Drafts, HasLog}
use Rattle.coco_make.specs.NewStore.{AreEmptyLogs}
use Rattle.coco_store.specs.Entries.{BaseEntry, Dones, IsBaseEntry, Values, base_bytes, base_kind}
use Rattle.coco_ckpt.specs.Compacting.{AreCut, IsBaseWith}

-- ---- while it is written

-- full entries of the first ones of these items were added, and the others are still to come
pub record HasPut {A : Type 0} (entry_of : List A → BaseEntry) (items rest : List A) (bodies : List (List ℕ)) (draft : Drafted) (reads : Option Files) : Type 0 where
  pub lists : List (List A)
  pub full : AllByRecursion (λ xs. length xs ≡ MOST_ITEMS) lists
  pub joined : flat_map (λ xs. xs) lists ++ rest ≡ items
  pub are : AllByRecursion IsBaseEntry (map entry_of lists)
  pub drafts : Drafts draft (bodies ++ map base_bytes (map entry_of lists)) reads

-- entries of all these items were added
pub record HasAdded {A : Type 0} (entry_of : List A → BaseEntry) (items : List A) (bodies : List (List ℕ)) (draft : Drafted) (reads : Option Files) : Type 0 where
  pub lists : List (List A)
  pub cut : AreCut MOST_ITEMS items lists
  pub are : AllByRecursion IsBaseEntry (map entry_of lists)
  pub drafts : Drafts draft (bodies ++ map base_bytes (map entry_of lists)) reads

-- entries of all these Dones were added, and then entries of all these rows
pub record HasItems (dones : List Done) (rows : List (RowKey × Value)) (bodies : List (List ℕ)) (draft : Drafted) (reads : Option Files) : Type 0 where
  pub dones_lists : List (List Done)
  pub dones_cut : AreCut MOST_ITEMS dones dones_lists
  pub rows_lists : List (List (RowKey × Value))
  pub rows_cut : AreCut MOST_ITEMS rows rows_lists
  pub are : AllByRecursion IsBaseEntry (map Dones dones_lists ++ map Values rows_lists)
  pub drafts : Drafts draft (bodies ++ map base_bytes (map Dones dones_lists ++ map Values rows_lists)) reads

-- the draft has the entries of such a base
pub record DraftsBase (epoch : ℕ) (floor : Option ℕ) (dones : List Done) (rows : List (RowKey × Value)) (draft : Drafted) (reads : Option Files) : Type 0 where
  pub entries : List BaseEntry
  pub is : IsBaseWith epoch floor dones rows entries
  pub are : AllByRecursion IsBaseEntry entries
  pub drafts : Drafts draft (map base_bytes entries) reads

-- ---- once it is written

-- the file is the log of such a base, and a crash leaves it so
pub record HasBase (epoch : ℕ) (floor : Option ℕ) (dones : List Done) (rows : List (RowKey × Value)) (file : ℕ) (reads : Option Files) (may_leave : Files → Type 0) : Type 0 where
  pub entries : List BaseEntry
  pub is : IsBaseWith epoch floor dones rows entries
  pub are : AllByRecursion IsBaseEntry entries
  pub log : HasLog base_kind (map base_bytes entries) file reads may_leave

-- so are the logs without entries that a layout names
abbrev pub HasEmptyLogs : Layout → Option Files → (Files → Type 0) → Type 0
HasEmptyLogs layout reads may_leave = IfSome reads (λ files. (image : Files) → may_leave image → AreEmptyLogs layout image)
