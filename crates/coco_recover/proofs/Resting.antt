-- The logs of an opened store stand, and its host rests on what the files hold.
use Rattle.std.proofs.Common.{◌≡◌, ℕ, suc, ◌<◌, Bool, true, false, ◌||◌, nat_eq, List, [], ◌∷◌, length, Option, None, Some, refl, sym, subst, ◌∙◌, arith}
use Rattle.std.specs.Prelude.{IfSome, slice_index}
use Rattle.std.specs.List.{AllByRecursion}
use Rattle.std.specs.Option.{option_to_list}
use Rattle.std.proofs.lemmas.Bool.{eqb-true}
use Rattle.coco_append.specs.Gaining.{RestsOn, Stands}
use Rattle.coco_ast.proofs.Lists.{all_append}
use Rattle.coco_entry.specs.declared.layout.LayoutEntry.{LayoutEntry}
use Rattle.coco_entry.specs.Layouts.{is_named}
use Rattle.coco_host.specs.Files.{Files, NoMore}
use Rattle.coco_log.specs.LogState.{IsFresh, IsOpened, LogState}
use Rattle.coco_store.specs.Contents.{Contents, IsGoodStore}
use Rattle.coco_store.specs.Entries.{files_of}
use Rattle.coco_store.specs.Laws.{KeepsLog}
use Rattle.coco_store.proofs.Keeping.{store_kept}
use Rattle.coco_store.proofs.OneStore.{one_layouts}
use Rattle.coco_recover.specs.History.{IsHistoryHeld, IsHistoryRead}
use Rattle.coco_recover.specs.Layouts.{setting_of}
use Rattle.coco_recover.specs.Steps.{IsLeft}
use Rattle.coco_recover.specs.declared.history.StoreHistory.{StoreHistory}
use Rattle.coco_recover.proofs.Reading.{still_opened}

-- ---- a log

pub stands_so : (log : LogState) (reads : Option Files) (may_leave : Files → Type 0) → ((files : Files) → reads ≡ Some files → IsOpened log files may_leave) → Stands log reads may_leave
stands_so log None may_leave opened = tt
stands_so log (Some files) may_leave opened = opened files refl

opened_so : (log : LogState) (reads : Option Files) (files : Files) (may_leave : Files → Type 0) → reads ≡ Some files → Stands log reads may_leave → IsOpened log files may_leave
opened_so log reads files may_leave told stands = subst (λ (r : Option Files). Stands log r may_leave) told stands

pub stands_still : (log : LogState) (old new : Option Files) (may_old may_new : Files → Type 0) → new ≡ old → NoMore may_old may_new → Stands log old may_old → Stands log new may_new
stands_still log old new may_old may_new same fewer stands =
    stands_so log new may_new (λ files told. still_opened files may_old may_new log fewer (opened_so log old files may_old (sym same ∙ told) stands))

pub left_opened : (log : LogState) (files : Files) (may_leave : Files → Type 0) (file kind : ℕ) → IsFresh log file kind → IsOpened log files may_leave → (image : Files) → may_leave image → image file ≡ files file
left_opened log files may_leave file kind fresh opened image left = subst (λ (f : ℕ). image f ≡ files f) fresh.in_file (opened.rest.durable image left)

-- ---- the files that a layout names

or_either : (a b : Bool) (P : Type 0) → (a ≡ true → P) → (b ≡ true → P) → a || b ≡ true → P
or_either true b P here there is = here refl
or_either false b P here there is = there is

named_all : (P : ℕ → Type 0) (xs : List ℕ) → AllByRecursion P xs → (n : ℕ) → is_named xs n ≡ true → P n
named_all P [] all n is = let two : false ≡ true = is in cc
named_all P (x ∷ xs) all n is = or_either (nat_eq x n) (is_named xs n) (P n) (λ t. subst P (eqb-true x n t) all.0) (named_all P xs all.1 n) is

at_all : (P : ℕ → Type 0) (xs : List ℕ) → ((i : ℕ) → i < length xs → P (slice_index xs i)) → AllByRecursion P xs
at_all P [] each = tt
at_all P (x ∷ xs) each = (each 0 (omega arith), at_all P xs (λ i less. each (suc i) (omega arith)))

some_all : (P : ℕ → Type 0) (o : Option ℕ) → IfSome o P → AllByRecursion P (option_to_list o)
some_all P None some = tt
some_all P (Some x) some = (some, tt)

all_named : (P : ℕ → Type 0) (entry : LayoutEntry) → P 0 → P entry.layout.chief_file → ((i : ℕ) → i < length entry.layout.node_files → P (slice_index entry.layout.node_files i)) → IfSome entry.base_file P
    → (n : ℕ) → is_named (files_of entry) n ≡ true → P n
all_named P entry root chief nodes base =
    named_all P (files_of entry)
    (all_append P (0 ∷ entry.layout.chief_file ∷ entry.layout.node_files) (option_to_list entry.base_file) (root, (chief, at_all P entry.layout.node_files nodes)) (some_all P entry.base_file base))

-- ---- the host

-- the base file stays as it was left
pub left_still : (file : Option ℕ) (files : Files) (may_old may_new : Files → Type 0) → NoMore may_old may_new → IsLeft file files may_old → IsLeft file files may_new
left_still None files may_old may_new fewer left = tt
left_still (Some file) files may_old may_new fewer left = λ image may. left image (fewer image may)

-- what is had before the nodes' files is held still
pub held_still : (files : Files) (may_old may_new : Files → Type 0) (h : StoreHistory) → NoMore may_old may_new → IsHistoryHeld files may_old h → IsHistoryHeld files may_new h
held_still files may_old may_new h fewer held = record {
  last = held.last;
  base = held.base;
  commits = held.commits;
  root = still_opened files may_old may_new h.root fewer held.root;
  chief = still_opened files may_old may_new h.chief fewer held.chief;
  base_left = left_still h.last.entry.base_file files may_old may_new fewer held.base_left;
}

pub rests : (files : Files) (h : StoreHistory) (c : Contents) (reads : Option Files) (may_leave : Files → Type 0) → IsHistoryRead h → IsHistoryHeld files may_leave h → reads ≡ Some files → IsGoodStore files c
    → ((i : ℕ) → i < length h.last.entry.layout.node_files → (image : Files) → may_leave image → image (slice_index h.last.entry.layout.node_files i) ≡ files (slice_index h.last.entry.layout.node_files i))
    → RestsOn c reads may_leave
rests files h c reads may_leave had held told good nodes =
    let one = one_layouts c.earlier held.last.earlier c.setting (setting_of h.last) (files 0) good.holds.history.layouts held.last.holds in
    let left = all_named (λ (n : ℕ). (image : Files) → may_leave image → image n ≡ files n) h.last.entry (left_opened h.root files may_leave 0 0 had.root held.root)
    (left_opened h.chief files may_leave h.last.entry.layout.chief_file 1 had.chief held.chief) nodes held.base_left in
    record {
      files = files;
      are = told;
      good = good;
      left = λ image may. store_kept files image c
          (λ n named. subst (λ (bytes : List ℕ). KeepsLog (files n) bytes) (sym (left n (subst (λ s. is_named (files_of s.entry) n ≡ true) one.setting named) image may)) (λ kind bodies log. log)) good;
    }
