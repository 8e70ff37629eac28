-- The verdict on an opened store is that on what its files hold.
use Rattle.std.proofs.Common.{◌≡◌, ℕ, ◌-◌, Bool, nat_le, List, [], ◌++◌, length, drop, None, refl, sym, ap, subst, ◌∙◌}
use Rattle.std.specs.List.{flat_map, prefix_len}
use Rattle.std.proofs.lemmas.List.{length-drop}
use Rattle.coco_types.specs.RowKey.{RowKey}
use Rattle.coco_types.specs.declared.call.Done.{Done}
use Rattle.coco_types.specs.declared.value.Value.{Value}
use Rattle.coco_host.specs.Files.{Files}
use Rattle.coco_ast.specs.History.{IsSerial, RepliesAreRuns, all_dones, epoch_dones, with_keep}
use Rattle.coco_ast.specs.Keyed.{Rows}
use Rattle.coco_ast.specs.Tree.{Procedures}
use Rattle.coco_audit.specs.Differing.{IsFirstUnlike}
use Rattle.coco_load.specs.RowMaps.{map_with}
use Rattle.coco_audit.specs.Texts.{not_serial_text, serial_text}
use Rattle.coco_audit.specs.declared.verify.NotSerial.{NotSerial}
use Rattle.coco_ending.specs.declared.ending.Ending.{Ending}
use Rattle.coco_ending.specs.declared.ending.Ending.TheVariants as ending
use Rattle.coco_entry.specs.declared.layout.LayoutEntry.{LayoutEntry}
use Rattle.coco_kept.proofs.KeepLemmas.{kept_all}
use Rattle.coco_recover.specs.Opening.{Has}
use Rattle.coco_recover.specs.declared.opening.Opened.{Opened}
use Rattle.coco_store.specs.Contents.{Contents, Holds, history_of}
use Rattle.coco_store.specs.Rules.{kept_dones}
use Rattle.coco_commands.specs.Telling.{IsVerdict}
use Rattle.coco_commands.proofs.BaseLemmas.{base_passes, behind_passing, commits_fail, commits_timed}

-- whether a Done is of the epochs up to this one
abbrev is_early : ℕ → Done → Bool
is_early n d = nat_le d.epoch n

module _ (files : Files) (c : Contents) (holds : Holds files c) (store : Opened) (has : Has None c store)
    (first : ℕ) (first_is : first ≡ prefix_len (is_early store.layout.base_epoch) store.kept.dones) where
  -- the Dones of the epochs
  abbrev late : List Done
  late = epoch_dones (history_of c)

  records : store.kept.dones ≡ kept_dones c.base ++ late
  records = has.dones ∙ kept_all (all_dones (with_keep None (history_of c)))

  -- they come behind those of the base
  behind_is : drop first store.kept.dones ≡ late
  behind_is =
      let n = c.setting.entry.layout.base_epoch in
      let early : first ≡ prefix_len (is_early n) store.kept.dones = first_is ∙ ap (λ (e : LayoutEntry). prefix_len (is_early e.layout.base_epoch) store.kept.dones) has.layout in
      ap (λ (k : ℕ). drop k store.kept.dones) early
      ∙ ap (λ (l : List Done). drop (prefix_len (is_early n) l) l) records
      ∙ behind_passing (is_early n) (kept_dones c.base) late (base_passes c.setting files c.base c.setting.entry.base_file holds.history.base)
      (commits_fail c.setting c.base c.commits holds.history.commits.are.are holds.history.commits.each)

  count_is : length store.kept.dones - first ≡ length late
  count_is = sym (length-drop first store.kept.dones) ∙ ap length behind_is

  module _ (base : List (RowKey × Value)) (base_is : base ≡ flat_map (λ rows. rows) store.base.items) where
    rows_are : map_with base ≡ (history_of c).base.rows
    rows_are = ap map_with (base_is ∙ has.base)

    -- what holds of the store's Dones behind its base's holds of those of the epochs
    of_epochs : (F : Procedures → Rows → List Done → Type 0) → F store.procs (map_with base) (drop first store.kept.dones) → F c.setting.tree (history_of c).base.rows late
    of_epochs F is =
        subst (λ (procs : Procedures). F procs (history_of c).base.rows late) has.procs
        (subst (λ (rows : Rows). F store.procs rows late) rows_are (subst (λ (dones : List Done). F store.procs (map_with base) dones) behind_is is))

    pub serial_told : (how : Ending) (text : List ℕ) (count : ℕ) → how ≡ ending.Finished → text ≡ serial_text count → count ≡ length store.kept.dones - first
        → RepliesAreRuns store.procs (map_with base) (drop first store.kept.dones) → IsVerdict c text how
    serial_told how text count ends says counts runs =
        let serial : IsSerial c.setting.tree (history_of c) =
        record { replies = of_epochs RepliesAreRuns runs; times = commits_timed c.setting c.base [] c.commits holds.history.commits.each } in
        subst (λ (e : Ending). IsVerdict c text e) (sym ends) (serial, says ∙ ap serial_text (counts ∙ count_is))

    pub unlike_told : (how : Ending) (text : List ℕ) (found : NotSerial) → how ≡ ending.NotSerial found.place → text ≡ not_serial_text found
        → IsFirstUnlike store.procs (map_with base) (drop first store.kept.dones) found → IsVerdict c text how
    unlike_told how text found ends says unlike =
        subst (λ (e : Ending). IsVerdict c text e) (sym ends) (found, of_epochs (λ procs rows dones. IsFirstUnlike procs rows dones found) unlike, refl, says)
