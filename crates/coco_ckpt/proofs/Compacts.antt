-- A store whose new files are written stands ready to be switched to, and becomes the compacted one by a layout more.
use Rattle.std.proofs.Common.{◌≡◌, ℕ, ◌+◌, ◌-◌, ◌<◌, List, ◌∷◌, map, Option, Some, None, refl, sym, subst, arith, false, true}
use Rattle.std.specs.List.{AllByRecursion}
use Rattle.std.specs.FinMap.{entries}
use Rattle.coco_types.specs.Limits.{epochs_end}
use Rattle.coco_types.specs.declared.call.Done.{Done}
use Rattle.coco_host.specs.Files.{Files}
use Rattle.coco_ast.specs.History.{History, StayAlike, compacted, floor, kept}
use Rattle.coco_ast.specs.Tree.{Procedures}
use Rattle.coco_append.specs.Gaining.{HasStore, RestsAs}
use Rattle.coco_append.proofs.PastLemmas.{store_besides}
use Rattle.coco_entry.specs.declared.layout.LayoutEntry.{LayoutEntry}
use Rattle.coco_entry.specs.Layouts.{IsLayout, is_named}
use Rattle.coco_lines.specs.Alike.{NoLineTells}
use Rattle.coco_log.specs.Changes.{SameBesides}
use Rattle.coco_log.specs.Drafts.{HasLog, KeepsLog}
use Rattle.coco_log.specs.Grammar.{IsLog}
use Rattle.coco_make.specs.NewStore.{AreEmptyLogs}
use Rattle.coco_recover.specs.Opening.{Has, IsSoundStore, entry_in, its_keep}
use Rattle.coco_recover.specs.declared.opening.Opened.{Opened}
use Rattle.coco_store.specs.Contents.{Contents, HoldsBase, IsGoodStore, history_of, map_in}
use Rattle.coco_store.specs.Entries.{BaseEntry, IsBaseEntry, base_bytes, base_kind, files_of}
use Rattle.coco_store.specs.Laws.{KeepAllLogs}
use Rattle.coco_store.proofs.Keeping.{store_kept}
use Rattle.coco_store.specs.Rules.{IsBase, IsWithinLimits}
use Rattle.coco_store.specs.Switching.{IsReadyFor}
use Rattle.coco_load.specs.Epochs.{IsNextOf}
use Rattle.coco_ckpt.specs.Compacting.{IsBaseWith, IsCompactBase, IsCompactLayout, IsCompaction, compact_files, compacted_with}
use Rattle.coco_ckpt.proofs.NewFiles.{epoch_is, file_apart, free, same_text, wider}
use Rattle.coco_ckpt.specs.Laws.{CompactedIsGood, IsCompactedFrom}
use Rattle.coco_ckpt.specs.Writing.{HasEmptyLogs}
use Rattle.coco_make.proofs.Besides.{told}

module _ (c : Contents) (entry : LayoutEntry) (es : List BaseEntry) (file : ℕ) (is_file : entry.base_file ≡ Some file) where
  abbrev d : Contents
  d = compacted_with entry es c

  holds_base : (files : Files) (o : Option ℕ) → o ≡ Some file → IsLog base_kind (map base_bytes es) (files file) → AllByRecursion IsBaseEntry es → IsBase d.setting es → HoldsBase files d.setting es o
  holds_base files None is log are base = let no : ◌≡◌ {A = Option ℕ} None (Some file) = is in cc
  holds_base files (Some f) is log are base =
      let same : file ≡ f = cc in
      (record { log = subst (λ (n : ℕ). IsLog base_kind (map base_bytes es) (files n)) same log; are = are }, base)

  -- files that have the old layouts, this base and the logs without entries
  ready : (files : Files) → IsGoodStore files c → IsLog base_kind (map base_bytes es) (files file) → AllByRecursion IsBaseEntry es → IsBase d.setting es → AreEmptyLogs entry.layout files → IsReadyFor c d files
  ready files good log are base empty = record {
    layouts = good.holds.history.layouts;
    stands = record {
      base = holds_base files entry.base_file is_file log are base;
      commits = record { are = record { log = empty.commits; are = tt }; each = tt };
      nodes = λ n less. record { are = record { log = empty.prepared n less; are = tt }; each = tt; committed = tt };
    };
  }

  pub ready_rests : (reads : Option Files) (may_leave : Files → Type 0) → ((files : Files) → reads ≡ Some files → may_leave files) → RestsAs (HasStore c) reads may_leave
      → HasLog base_kind (map base_bytes es) file reads may_leave → AllByRecursion IsBaseEntry es → IsBase d.setting es → HasEmptyLogs entry.layout reads may_leave
      → RestsAs (IsReadyFor c d) reads may_leave
  ready_rests reads may_leave reads_left rests has are base empty =
      let log = told reads rests.files (λ fs. KeepsLog base_kind (map base_bytes es) file fs may_leave) rests.are has in
      let none = told reads rests.files (λ fs. (image : Files) → may_leave image → AreEmptyLogs entry.layout image) rests.are empty in
      record {
        files = rests.files;
        are = rests.are;
        good = ready rests.files rests.good log.log are base (none rests.files (reads_left rests.files rests.are));
        left = λ image left. ready image (rests.left image left) (subst (λ (l : List ℕ). IsLog base_kind (map base_bytes es) l) (sym (log.durable image left)) log.log) are base (none image left);
      }

-- ---- an opened store

module _ (store : Opened) (sound : IsSoundStore store) (c : Contents) (has : Has (its_keep c) c store) where
  abbrev epoch : ℕ
  epoch = store.next_epoch - 1

  pub is_next : IsNextOf c (epoch + 1)
  is_next = let same : store.next_epoch ≡ epoch + 1 = omega (arith, sound.first) in subst (IsNextOf c) same has.next

  same_base : (n m : ℕ) (f g : Option ℕ) (xs ys : List Done) (entries_in : List BaseEntry) → n ≡ m → f ≡ g → xs ≡ ys → IsBaseWith n f xs (entries (map_in c)) entries_in → IsBaseWith m g ys (entries (map_in c)) entries_in
  same_base n m f g xs ys es p q r is =
      subst (λ (k : ℕ). IsBaseWith k g ys (entries (map_in c)) es) p (subst (λ (o : Option ℕ). IsBaseWith n o ys (entries (map_in c)) es) q (subst (λ (l : List Done). IsBaseWith n f l (entries (map_in c)) es) r is))

  module _ (files : Files) (good : IsGoodStore files c) (entry : LayoutEntry) (compact : IsCompactLayout epoch (entry_in store) entry) (is : IsLayout entry) (limits : IsWithinLimits entry)
      (law : CompactedIsGood) (base_epoch : entry.layout.base_epoch ≡ epoch) (entries_in : List BaseEntry)
      (is_with : IsBaseWith entry.layout.base_epoch store.kept.floor store.kept.dones (entries (map_in c)) entries_in) where
    its_layout : IsCompactLayout epoch c.setting.entry entry
    its_layout = subst (λ (e : LayoutEntry). IsCompactLayout epoch e entry) has.layout compact

    its_base : IsCompactBase epoch c entries_in
    its_base = same_base entry.layout.base_epoch epoch store.kept.floor (floor (history_of c)) store.kept.dones (kept (history_of c)) entries_in base_epoch has.floor has.dones is_with

    pub is_from : IsCompactedFrom c (compacted_with entry entries_in c) epoch
    is_from = law files c epoch entry entries_in good is_next is limits its_layout its_base

    stay_alike : ((ps : Procedures) (h : History) (n : ℕ) → StayAlike ps h (compacted ps n h)) → StayAlike c.setting.tree (history_of c) (history_of (compacted_with entry entries_in c))
    stay_alike alike = subst (λ (h : History). StayAlike c.setting.tree (history_of c) h) (sym is_from.history) (alike c.setting.tree (history_of c) epoch)

    pub compaction : ((ps : Procedures) (h : History) (n : ℕ) → StayAlike ps h (compacted ps n h)) → ((ps : Procedures) (g h : History) → StayAlike ps g h → NoLineTells ps g h)
        → IsCompaction c (compacted_with entry entries_in c)
    compaction alike unseen = record {
      epoch = epoch;
      greatest = is_next;
      layout = its_layout;
      base = its_base;
      is = refl;
      history = is_from.history;
      alike = stay_alike alike;
      unseen = unseen c.setting.tree (history_of c) (history_of (compacted_with entry entries_in c)) (stay_alike alike);
    }

-- files that a layout doesn't name may change
pub still_good : (named : List ℕ) (c : Contents) → ((n : ℕ) → is_named (files_of c.setting.entry) n ≡ true → is_named named n ≡ false) → (old new : Files) → SameBesides named old new → HasStore c old → HasStore c new
still_good named c free old new same good = store_besides named c old new free same good

-- a store whose files all keep their logs
pub still_logged : (c : Contents) (old new : Files) → KeepAllLogs old new → HasStore c old → HasStore c new
still_logged c old new keep good = store_kept old new c (λ n named. keep n) good

-- the files that an opened store is compacted to
module _ (store : Opened) (sound : IsSoundStore store) (entry : LayoutEntry) (base : ℕ)
    (compact : IsCompactLayout (store.next_epoch - 1) (entry_in store) entry) (is_base : entry.base_file ≡ Some base) where
  end : store.next_epoch - 1 < epochs_end
  end = omega (arith, sound.first, sound.end)

  pub base_beside : is_named (entry.layout.chief_file ∷ entry.layout.node_files) base ≡ false
  base_beside = file_apart (entry_in store) sound.is sound.limits entry (store.next_epoch - 1) end compact base is_base

  pub unnamed : (n : ℕ) → is_named (files_of (entry_in store)) n ≡ true → is_named (base ∷ entry.layout.chief_file ∷ entry.layout.node_files) n ≡ false
  unnamed = free (entry_in store) sound.is sound.limits entry (store.next_epoch - 1) end compact base is_base

  pub among_compact : (n : ℕ) → is_named (compact_files (entry_in store)) n ≡ false → is_named (base ∷ entry.layout.chief_file ∷ entry.layout.node_files) n ≡ false
  among_compact = wider (entry_in store) sound.is sound.limits entry (store.next_epoch - 1) end compact base is_base

  pub text_stays : entry.layout.text ≡ store.layout.text
  text_stays = same_text (entry_in store) sound.is sound.limits entry (store.next_epoch - 1) end compact

  pub has_epoch : entry.layout.base_epoch ≡ store.next_epoch - 1
  has_epoch = epoch_is (entry_in store) sound.is sound.limits entry (store.next_epoch - 1) end compact

  -- a store that such files don't belong to is as it was
  pub before_stays : (c : Contents) → Has (its_keep c) c store → (old new : Files) → SameBesides (base ∷ entry.layout.chief_file ∷ entry.layout.node_files) old new → HasStore c old → HasStore c new
  before_stays c has = still_good (base ∷ entry.layout.chief_file ∷ entry.layout.node_files) c
      (λ n is. unnamed n (subst (λ (e : LayoutEntry). is_named (files_of e) n ≡ true) (sym has.layout) is))
