-- What the append of a layout makes of files that stand ready.
use Rattle.std.proofs.Common.{◌≡◌, ◌⊎◌, inl, inr, ⊎_elim, ℕ, zero, suc, ◌*◌, ◌≤◌, List, [], ◌∷◌, ◌++◌, length, Option, Some, None, refl, sym, ap, subst, ◌∙◌, arith, length-append}
use Rattle.std.specs.List.{flat_map}
use Rattle.coco_bytes.specs.Fields.{u32_bytes, u64_bytes}
use Rattle.coco_types.specs.Limits.{most_procedure_bytes}
use Rattle.coco_host.specs.Files.{Files}
use Rattle.coco_entry.specs.declared.layout.LayoutEntry.{LayoutEntry}
use Rattle.coco_entry.specs.Grammar.{bytes32}
use Rattle.coco_entry.specs.Layouts.{IsLayout, later_bytes, layout_bytes}
use Rattle.coco_log.specs.Grammar.{most_entry_bytes}
use Rattle.coco_log.specs.LogState.{IsBeforeOrAfter, IsFresh, LogState}
use Rattle.coco_store.specs.Contents.{Contents}
use Rattle.coco_store.specs.Entries.{layouts_file, layouts_kind}
use Rattle.coco_store.specs.Laws.{GainsEntry, KeepAllLogs, KeepsLog, MayGainEntry, WithOne}
use Rattle.coco_store.specs.Rules.{IsWithinLimits}
use Rattle.coco_store.specs.Switching.{IsReadyFor, Switches}
use Rattle.coco_store.proofs.Switching.{after_switch, ready_kept, while_switch}
use Rattle.coco_append.specs.Gaining.{GrowsAs, HasLogsOf, HasStore, RestsAs}
use Rattle.coco_append.proofs.GainLemmas.{named_keep}

-- what was put behind no bytes
pub body_is : (old made body bytes : List ℕ) → old ≡ [] → made ≡ old ++ bytes → body ≡ made → body ≡ bytes
body_is old made body bytes none put is = is ∙ put ∙ ap (λ (l : List ℕ). l ++ bytes) none

-- ---- its length

files_long : (files : List ℕ) → length (flat_map u32_bytes files) ≡ 4 * length files
files_long [] = omega arith
files_long (file ∷ files) = omega (arith, files_long files)

later_long : (keep base_file : Option ℕ) → length (later_bytes keep base_file) ≤ 6
later_long keep (Some file) = omega arith
later_long (Some keep) None = omega arith
later_long None None = omega arith

pub layout_short : (e : LayoutEntry) → IsLayout e → IsWithinLimits e → length e.layout.text ≤ most_procedure_bytes → length (layout_bytes e) ≤ most_entry_bytes
layout_short e is limits text =
    let files = flat_map u32_bytes e.layout.node_files in
    let behind = u64_bytes e.layout.base_epoch ++ bytes32 e.layout.text in
    let later = later_bytes e.keep e.base_file in
    omega (
      arith,
      files_long e.layout.node_files,
      later_long e.keep e.base_file,
      is.fields.count,
      limits.nodes.1,
      text,
      length-append files behind,
      length-append (files ++ behind) later,
    )

-- ---- files that keep the logs of others

-- so does whatever a crash might have left, and what is read
pub logs_rest : (c d : Contents) (reads : Option Files) (may_leave : Files → Type 0) → ((files : Files) → reads ≡ Some files → may_leave files)
    → RestsAs (IsReadyFor c d) reads may_leave → RestsAs (HasLogsOf may_leave) reads may_leave
logs_rest c d reads may_leave reads_left rests = record {
  files = rests.files;
  are = rests.are;
  good = (rests.files, reads_left rests.files rests.are, λ n kind bodies log. log);
  left = λ image left. (image, left, λ n kind bodies log. log);
}

-- those of files that stand ready stand ready
module _ (c d : Contents) (may_leave : Files → Type 0) (go : Switches c d) (ready : (image : Files) → may_leave image → IsReadyFor c d image) where
  still_ready : (files : Files) → HasLogsOf may_leave files → IsReadyFor c d files
  still_ready files has = ready_kept has.0 files c d has.2 (ready has.0 has.1)

  -- where the entry isn't there yet, all logs are as they were
  not_yet : (old new : Files) → HasLogsOf may_leave old → MayGainEntry layouts_file layouts_kind (layout_bytes d.setting.entry) old new → KeepsLog (old layouts_file) (new layouts_file) → HasLogsOf may_leave new
  not_yet old new has m same = (has.0, has.1, λ n kind bodies log. kept n kind bodies (has.2 n kind bodies log))
    where
      kept : (n : ℕ) → KeepsLog (old n) (new n)
      kept zero = same
      kept (suc n) = m.others (suc n) tt (λ e. let no : suc n ≡ 0 = e in cc)

  switch_grows : GrowsAs (HasLogsOf may_leave) (HasStore d) layouts_file layouts_kind (layout_bytes d.setting.entry)
  switch_grows = record {
    meanwhile = λ old new has m. ⊎_elim (λ same. inl (not_yet old new has m same)) (λ good. inr good)
        (while_switch old new c d go (still_ready old has) (named_keep IsBeforeOrAfter _ layouts_file layouts_kind (layout_bytes d.setting.entry) old new m));
    grown = λ old new has gains.
        after_switch old new c d go (still_ready old has) (named_keep WithOne _ layouts_file layouts_kind (layout_bytes d.setting.entry) old new gains);
  }

  pub layout_grows : (log : LogState) (body : List ℕ) → IsFresh log layouts_file layouts_kind → body ≡ layout_bytes d.setting.entry → GrowsAs (HasLogsOf may_leave) (HasStore d) log.file log.kind body
  layout_grows log body fresh is =
      subst (λ (f : ℕ). GrowsAs (HasLogsOf may_leave) (HasStore d) f log.kind body) (sym fresh.in_file)
      (subst (λ (k : ℕ). GrowsAs (HasLogsOf may_leave) (HasStore d) layouts_file k body) (sym fresh.of_kind)
      (subst (λ (b : List ℕ). GrowsAs (HasLogsOf may_leave) (HasStore d) layouts_file layouts_kind b) (sym is) switch_grows))
