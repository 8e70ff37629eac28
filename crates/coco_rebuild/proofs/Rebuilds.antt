-- A store whose new file is written stands ready to be switched to, and becomes the rebuilt one by a layout more.
use Rattle.std.proofs.Common.{◌≡◌, ℕ, ◌<◌, List, [], ◌∷◌, map, Option, Result, Ok, Err, refl, sym, ap, subst, ◌∙◌, ◌==◌, true, false}
use Rattle.std.specs.Prelude.{OnOk, slice_set}
use Rattle.std.proofs.lemmas.Bool.{or_parts}
use Rattle.coco_host.specs.Files.{Files}
use Rattle.coco_host.specs.Moments.{Observation}
use Rattle.coco_host.specs.declared.host.Host.{Ghosts as HostGhosts}
use Rattle.coco_append.specs.Gaining.{GainsAs, RestsAs}
use Rattle.coco_append.proofs.PastLemmas.{logs_besides}
use Rattle.coco_ast.proofs.Lists.{all_weaker}
use Rattle.coco_entry.specs.declared.layout.Layout.{Layout}
use Rattle.coco_entry.specs.declared.layout.LayoutEntry.{LayoutEntry}
use Rattle.coco_entry.specs.declared.prepared.Prepared.{Prepared}
use Rattle.coco_entry.specs.Layouts.{is_named}
use Rattle.coco_entry.specs.Rows.{IsPrepared, prepared_bytes}
use Rattle.coco_log.specs.Changes.{SameBesides}
use Rattle.coco_log.specs.Drafts.{HasLog, KeepsLog}
use Rattle.coco_log.specs.Grammar.{IsLog}
use Rattle.coco_log.specs.declared.fault.LogFault.{LogFault}
use Rattle.coco_log.specs.declared.fault.LogFault.TheVariants.{Disk, NoMemory, NotALog, TooLong}
use Rattle.coco_log.specs.Faults.{CountsFault}
use Rattle.coco_read.specs.Faults.{Counts}
use Rattle.coco_read.specs.declared.fault.OpenFault.{OpenFault}
use Rattle.coco_read.specs.declared.fault.OpenFault.TheVariants as opening
use Rattle.coco_read.specs.declared.fault.OpenFault.TheVariants.{NotAStore}
use Rattle.coco_recover.specs.Without.{BehindGatesButForANode, IsGoodBut}
use Rattle.coco_store.specs.Contents.{Contents, IsGoodStore}
use Rattle.coco_store.specs.Entries.{ArePrepared, files_of, prepared_kind}
use Rattle.coco_store.specs.Laws.{KeepAllLogs}
use Rattle.coco_store.specs.Switching.{IsReadyFor, Switches}
use Rattle.coco_rebuild.specs.Answers.{answer_to}
use Rattle.coco_rebuild.specs.Laws.{MaySwitch, RebuiltIsGood}
use Rattle.coco_rebuild.specs.Rebuilding.{AreRebuilt, HasRebuilt, IsHeldAlone, IsRebuilt, new_file, rebuild_files, rebuilt_layout, rebuilt_with}
use Rattle.coco_make.proofs.Besides.{told}

-- files that a layout doesn't name may change
pub still_but : (node : ℕ) (named : List ℕ) (c : Contents) → BehindGatesButForANode → ((n : ℕ) → is_named (files_of c.setting.entry) n ≡ true → is_named named n ≡ false) → (old new : Files)
    → SameBesides named old new → IsGoodBut node old c → IsGoodBut node new c
still_but node named c law free old new same good = law node old new c (logs_besides named (files_of c.setting.entry) old new free same) good

-- a store whose files all keep their logs
pub still_logged : (node : ℕ) (c : Contents) → BehindGatesButForANode → (old new : Files) → KeepAllLogs old new → IsGoodBut node old c → IsGoodBut node new c
still_logged node c law old new keep good = law node old new c (λ n named. keep n) good

module _ (node : ℕ) (c : Contents) (entries : List Prepared) (law : RebuiltIsGood) (less : node < c.setting.entry.layout.nodes) (held : (p : ℕ) → ¬ (IsHeldAlone c.setting.entry.layout node p))
    (are : AreRebuilt node c entries) where
  in_file : (files : Files) → IsLog prepared_kind (map prepared_bytes entries) (files (new_file c.setting.entry)) → ArePrepared entries (files (new_file c.setting.entry))
  in_file files log = record { log = log; are = all_weaker (IsRebuilt node c) IsPrepared (λ e rebuilt. rebuilt.is) entries are.each }

  pub may_switch : (files : Files) → IsGoodBut node files c → IsLog prepared_kind (map prepared_bytes entries) (files (new_file c.setting.entry)) → MaySwitch c (rebuilt_with node entries c) files
  may_switch files good log = law node files files c entries good less held are (λ n out. refl) (in_file files log)

  pub ready_rests : (reads : Option Files) (may_leave : Files → Type 0) → RestsAs (λ files. IsGoodBut node files c) reads may_leave
      → HasLog prepared_kind (map prepared_bytes entries) (new_file c.setting.entry) reads may_leave → RestsAs (IsReadyFor c (rebuilt_with node entries c)) reads may_leave
  ready_rests reads may_leave rests has =
      let file : ℕ = new_file c.setting.entry in
      let log = told reads rests.files (λ fs. KeepsLog prepared_kind (map prepared_bytes entries) file fs may_leave) rests.are has in
      record {
        files = rests.files;
        are = rests.are;
        good = (may_switch rests.files rests.good log.log).ready;
        left = λ image left.
            (may_switch image (rests.left image left) (subst (λ (l : List ℕ). IsLog prepared_kind (map prepared_bytes entries) l) (sym (log.durable image left)) log.log)).ready;
      }

  pub its_switch : (reads : Option Files) (may_leave : Files → Type 0) → RestsAs (λ files. IsGoodBut node files c) reads may_leave
      → HasLog prepared_kind (map prepared_bytes entries) (new_file c.setting.entry) reads may_leave → Switches c (rebuilt_with node entries c)
  its_switch reads may_leave rests has =
      let log = told reads rests.files (λ fs. KeepsLog prepared_kind (map prepared_bytes entries) (new_file c.setting.entry) fs may_leave) rests.are has in
      (may_switch rests.files rests.good log.log).switches

  pub rebuilt : (files : Files) → IsGoodStore files (rebuilt_with node entries c) → HasRebuilt node c files
  rebuilt files good = (rebuilt_with node entries c, record { entries = entries; are = are; is = refl; history = refl }, good)

-- what isn't among the files that change isn't the new one
pub wider : (old : LayoutEntry) (file : ℕ) → file ≡ new_file old → (n : ℕ) → is_named (rebuild_files old) n ≡ false → is_named (file ∷ []) n ≡ false
wider old file is n out = subst (λ (f : ℕ). is_named (f ∷ []) n ≡ false) (sym is) (or_parts (0 == n) (is_named (new_file old ∷ []) n) out).1

-- the layout that is written is the rebuilt one
pub same_entry : (node file : ℕ) (old entry : LayoutEntry) (layout : Layout) → old ≡ entry → file ≡ new_file old → layout ≡ record old.layout { node_files = slice_set old.layout.node_files node file }
    → rebuilt_layout node entry ≡ record { layout = layout; keep = old.keep; base_file = old.base_file }
same_entry node file old entry layout one is made =
    ap (rebuilt_layout node) (sym one)
    ∙ ap (λ (f : ℕ). record { layout = record old.layout { node_files = slice_set old.layout.node_files node f }; keep = old.keep; base_file = old.base_file }) (sym is)
    ∙ ap (λ (l : Layout). record { layout = l; keep = old.keep; base_file = old.base_file }) (sym made)

-- what is gained, where it is answered so
answered_ok : (r : Result (Unit {0}) LogFault) (P : Type 0) → OnOk r P → OnOk (answer_to r) P
answered_ok (Ok u) P p = p
answered_ok (Err Disk) P p = tt
answered_ok (Err NoMemory) P p = tt
answered_ok (Err (NotALog at)) P p = tt
answered_ok (Err TooLong) P p = tt

pub gains_answered : {H : Type 0} (frame : HostGhosts H)
    (written : Result (Unit {0}) LogFault) (result : Result (Unit {0}) OpenFault) (Was Now : Files → Type 0) (old new : H) → result ≡ answer_to written
    → GainsAs frame written Was Now old new → GainsAs frame result Was Now old new
gains_answered frame written result Was Now old new is gains = record {
  ok = subst (λ (r : Result (Unit {0}) OpenFault). OnOk r (RestsAs Now (frame.reads new) (frame.may_leave new))) (sym is) (answered_ok written (RestsAs Now (frame.reads new) (frame.may_leave new)) gains.ok);
  moments = gains.moments;
  left = gains.left;
}

-- such a call refuses no file, and the disk failed where the count rose
pub never_refused : (written : Result (Unit {0}) LogFault) (result : Result (Unit {0}) OpenFault) (file at : ℕ) → result ≡ answer_to written → result ≡ Err (NotAStore file at) → ⊥
never_refused (Ok u) result file at is bad = let no : ◌≡◌ {A = Result (Unit {0}) OpenFault} (Ok u) (Err (NotAStore file at)) = sym is ∙ bad in cc
never_refused (Err Disk) result file at is bad = let no : ◌≡◌ {A = Result (Unit {0}) OpenFault} (Err opening.Disk) (Err (NotAStore file at)) = sym is ∙ bad in cc
never_refused (Err NoMemory) result file at is bad = let no : ◌≡◌ {A = Result (Unit {0}) OpenFault} (Err opening.NoMemory) (Err (NotAStore file at)) = sym is ∙ bad in cc
never_refused (Err (NotALog place)) result file at is bad = let no : ◌≡◌ {A = Result (Unit {0}) OpenFault} (Err opening.Disk) (Err (NotAStore file at)) = sym is ∙ bad in cc
never_refused (Err TooLong) result file at is bad = let no : ◌≡◌ {A = Result (Unit {0}) OpenFault} (Err opening.Disk) (Err (NotAStore file at)) = sym is ∙ bad in cc

answered_counts : (written : Result (Unit {0}) LogFault) (old new : ℕ) → CountsFault written old new → Counts (answer_to written) old new
answered_counts (Ok u) old new counts = counts
answered_counts (Err Disk) old new counts = counts
answered_counts (Err NoMemory) old new counts = counts
answered_counts (Err (NotALog at)) old new counts = absurd counts
answered_counts (Err TooLong) old new counts = absurd counts

pub counts_answered : (written : Result (Unit {0}) LogFault) (result : Result (Unit {0}) OpenFault) (old new : ℕ) → result ≡ answer_to written → CountsFault written old new → Counts result old new
counts_answered written result old new is counts = subst (λ (r : Result (Unit {0}) OpenFault). Counts r old new) (sym is) (answered_counts written old new counts)
