-- The files that a compacted store is written into are new, and its layout is one.
use Rattle.std.proofs.Common.{◌≡◌, inl, inr, ⊎_elim, ℕ, zero, suc, ◌+◌, ◌<◌, ◌≤◌, ◌^◌, ◌==◌, ◌||◌, Bool, true, false, List, [], ◌∷◌, ◌++◌, length, Option, None, Some, refl, sym, ap, subst, ◌∙◌, arith, length-append}
use Rattle.std.specs.Prelude.{slice_index_or}
use Rattle.std.specs.List.{remove}
use Rattle.std.specs.Option.{option_to_list}
use Rattle.std.proofs.lemmas.Bool.{eq-eqb, or_from, or_left, or_parts, or_right}
use Rattle.std.proofs.lemmas.List.Folds.{list_any-append}
use Rattle.coco_types.specs.Limits.{epochs_end}
use Rattle.coco_entry.specs.declared.layout.Layout.{Layout}
use Rattle.coco_entry.specs.declared.layout.LayoutEntry.{LayoutEntry}
use Rattle.coco_entry.specs.Layouts.{AreNew, HasFields, HasLater, IsLayout, IsNew, is_named, keep_number, keep_of, named_by}
use Rattle.coco_make.specs.Free.{free_files}
use Rattle.coco_make.proofs.FreeLemmas.{free_are_new, length-free_files}
use Rattle.coco_store.specs.Entries.{files_of}
use Rattle.coco_store.specs.Rules.{IsKeep, IsWithinLimits}
use Rattle.coco_store.proofs.Naming.{unnamed_new}
use Rattle.coco_ckpt.specs.Compacting.{IsCompactLayout, compact_files}

-- ---- names

or_either : (a b : Bool) (P : Type 0) → (a ≡ true → P) → (b ≡ true → P) → a || b ≡ true → P
or_either true b P here there is = here refl
or_either false b P here there is = there is

named_last : (named : List ℕ) (file : ℕ) → is_named (named ++ file ∷ []) file ≡ true
named_last named file = list_any-append (λ n. n == file) named (file ∷ []) ∙ or_right (is_named named file) (is_named (file ∷ []) file) (or_left (file == file) false (eq-eqb file file refl))

not_named : (b : Bool) → (b ≡ true → false ≡ true) → b ≡ false
not_named true must = sym (must refl)
not_named false must = refl

-- what is new behind some files is new behind fewer
module _ (some named : List ℕ) (fewer : (n : ℕ) → is_named some n ≡ true → is_named named n ≡ true) where
  new_fewer : (file : ℕ) → IsNew named file → IsNew some file
  new_fewer file new = (new.0, not_named (is_named some file) (λ is. sym new.1 ∙ fewer file is))

are_new_fewer : (some named files : List ℕ) → ((n : ℕ) → is_named some n ≡ true → is_named named n ≡ true) → AreNew named files → AreNew some files
are_new_fewer some named [] fewer new = tt
are_new_fewer some named (file ∷ files) fewer new = (
  new_fewer some named fewer file new.0,
  are_new_fewer (some ++ file ∷ []) (named ++ file ∷ []) files (λ n is.
      list_any-append (λ m. m == n) named (file ∷ [])
      ∙ or_either (is_named some n) (is_named (file ∷ []) n) (is_named named n || is_named (file ∷ []) n ≡ true) (λ one. or_left (is_named named n) (is_named (file ∷ []) n) (fewer n one))
      (λ one. or_right (is_named named n) (is_named (file ∷ []) n) one) (sym (list_any-append (λ m. m == n) some (file ∷ [])) ∙ is)) new.1,
)

-- ---- two taken from the front

pub first_two : (xs : List ℕ) (n b c : ℕ) (ys zs : List ℕ) → length xs ≡ n + 2 → b ≡ slice_index_or xs 0 b → ys ≡ remove xs 0 → c ≡ slice_index_or ys 0 c → zs ≡ remove ys 0 → b ∷ c ∷ zs ≡ xs
first_two [] n b c ys zs long p q r s = absurd (omega (arith, long))
first_two (x ∷ []) n b c ys zs long p q r s = absurd (omega (arith, long))
first_two (x ∷ y ∷ xs) n b c ys zs long p q r s =
    let first : b ≡ x = p in
    let here : ys ≡ y ∷ xs = q in
    let second : c ≡ y = r ∙ ap (λ (l : List ℕ). slice_index_or l 0 c) here in
    let rest : zs ≡ xs = s ∙ ap (λ (l : List ℕ). remove l 0) here in
    ap (λ (k : ℕ). k ∷ c ∷ zs) first ∙ ap (λ (k : ℕ). x ∷ k ∷ zs) second ∙ ap (λ (l : List ℕ). x ∷ y ∷ l) rest

pub made_compact : (old : LayoutEntry) (epoch base chief : ℕ) (nodes : List ℕ) → base ∷ chief ∷ nodes ≡ free_files (files_of old) (old.layout.nodes + 2)
    → IsCompactLayout epoch old (record { layout = record old.layout { chief_file = chief; node_files = nodes; base_epoch = epoch }; keep = old.keep; base_file = Some base })
made_compact old epoch base chief nodes are = record { layout = refl; keep = refl; base = base; base_file = refl; files = are }

-- ---- the new files

module _ (old : LayoutEntry) (is : IsLayout old) (limits : IsWithinLimits old) where
  few_files : length (files_of old) ≤ old.layout.nodes + 3
  few_files = few old.base_file
    where
      few : (o : Option ℕ) → length (named_by old.layout ++ option_to_list o) ≤ old.layout.nodes + 3
      few None = omega (arith, length-append (named_by old.layout) [], is.fields.count)
      few (Some file) = omega (arith, length-append (named_by old.layout) (file ∷ []), is.fields.count)

  pub new_files : AreNew (files_of old) (free_files (files_of old) (old.layout.nodes + 2))
  new_files =
      let most : old.layout.nodes ≤ 8 = limits.nodes.1 in
      free_are_new (files_of old) (old.layout.nodes + 2) (omega (arith, few_files, most))

  -- none of them is one that the layout names
  pub free_of_old : (files : List ℕ) → files ≡ free_files (files_of old) (old.layout.nodes + 2) → (n : ℕ) → is_named (files_of old) n ≡ true → is_named files n ≡ false
  free_of_old files are n named = unnamed_new (files_of old) files n (subst (AreNew (files_of old)) (sym are) new_files) named

  keep_beside : (keep : Option ℕ) → IsKeep keep → (keep_number keep < 2 ^ 16) × (keep_of (keep_number keep) ≡ keep)
  keep_beside None is_keep = (omega arith, refl)
  keep_beside (Some zero) is_keep = absurd (omega (arith, is_keep.0))
  keep_beside (Some (suc n)) is_keep = (omega (arith, is_keep.1), refl)

  module _ (new : LayoutEntry) (epoch : ℕ) (end : epoch < epochs_end) (compact : IsCompactLayout epoch old new) where
    abbrev base : ℕ
    base = compact.base

    abbrev chief : ℕ
    chief = new.layout.chief_file

    abbrev nodes : List ℕ
    nodes = new.layout.node_files

    are_new : AreNew (files_of old) (base ∷ chief ∷ nodes)
    are_new = subst (AreNew (files_of old)) (sym compact.files) new_files

    same_field : {A : Type 0} (f : Layout → A) → ((l : Layout) (c : ℕ) (ns : List ℕ) (e : ℕ) → f (record l { chief_file = c; node_files = ns; base_epoch = e }) ≡ f l) → f new.layout ≡ f old.layout
    same_field f same = ap f compact.layout ∙ same old.layout chief nodes epoch

    node_count : new.layout.nodes ≡ old.layout.nodes
    node_count = same_field (λ l. l.nodes) (λ l c ns e. refl)

    partition_count : new.layout.partitions ≡ old.layout.partitions
    partition_count = same_field (λ l. l.partitions) (λ l c ns e. refl)

    copy_count : new.layout.copies ≡ old.layout.copies
    copy_count = same_field (λ l. l.copies) (λ l c ns e. refl)

    pub same_text : new.layout.text ≡ old.layout.text
    same_text = same_field (λ l. l.text) (λ l c ns e. refl)

    pub epoch_is : new.layout.base_epoch ≡ epoch
    epoch_is = ap (λ (l : Layout). l.base_epoch) compact.layout

    pub base_apart : is_named (chief ∷ nodes) base ≡ false
    base_apart = unnamed_new (files_of old ++ base ∷ []) (chief ∷ nodes) base are_new.1 (named_last (files_of old) base)

    own_first : (0 == base) ≡ false
    own_first = (or_parts (0 == base) _ are_new.0.1).0

    fields : HasFields new.layout
    fields =
        let was = is.fields in
        let length_is : length (base ∷ chief ∷ nodes) ≡ old.layout.nodes + 2 = ap length compact.files ∙ length-free_files (files_of old) (old.layout.nodes + 2) in
        record {
          nodes = omega (arith, was.nodes, node_count);
          partitions = omega (arith, was.partitions, partition_count);
          copies = omega (arith, was.copies, copy_count);
          chief = new_fewer (0 ∷ []) (files_of old ++ base ∷ []) (λ n named. or_either (0 == n) false (is_named (files_of old ++ base ∷ []) n ≡ true) (λ one. or_left (0 == n) _ one) (λ e. let f : false ≡ true = e in cc) named) chief are_new.1.0;
          count = omega (arith, length_is, node_count);
          files = are_new_fewer (0 ∷ chief ∷ []) ((files_of old ++ base ∷ []) ++ chief ∷ []) nodes (λ n named.
              or_either (0 == n) (is_named (chief ∷ []) n) (is_named ((files_of old ++ base ∷ []) ++ chief ∷ []) n ≡ true) (λ one. or_left (0 == n) _ one)
              (λ one. list_any-append (λ m. m == n) (files_of old ++ base ∷ []) (chief ∷ []) ∙ or_right (is_named (files_of old ++ base ∷ []) n) (is_named (chief ∷ []) n) one) named) are_new.1.1;
          base_epoch = omega (arith, end, epoch_is);
          text = omega (arith, was.text, ap length same_text);
        }

    later : (keep o : Option ℕ) → IsKeep keep → o ≡ Some base → HasLater (named_by new.layout) keep o
    later keep None is_keep of_base = let no : ◌≡◌ {A = Option ℕ} None (Some base) = of_base in cc
    later keep (Some file) is_keep of_base =
        let same : base ≡ file = cc in
        let number = keep_beside keep is_keep in
        (number.0, number.1, subst (λ (f : ℕ). IsNew (named_by new.layout) f) same (are_new.0.0, or_from (0 == base) (is_named (chief ∷ nodes) base) own_first base_apart))

    pub is_layout : IsLayout new
    is_layout = record { fields = fields; later = later new.keep new.base_file (subst IsKeep (sym compact.keep) limits.keep) compact.base_file }

    pub within_limits : IsWithinLimits new
    within_limits = record {
      nodes = (omega (arith, limits.nodes.0, node_count), omega (arith, limits.nodes.1, node_count));
      partitions = (omega (arith, limits.partitions.0, partition_count), omega (arith, limits.partitions.1, partition_count));
      copies = omega (arith, limits.copies, copy_count, node_count);
      base_epoch = omega (arith, end, epoch_is);
      keep = subst IsKeep (sym compact.keep) limits.keep;
    }

    -- the number of the base file, as it was handed out
    module _ (file : ℕ) (is_file : new.base_file ≡ Some file) where
      base_is : base ≡ file
      base_is = let same : ◌≡◌ {A = Option ℕ} (Some base) (Some file) = sym compact.base_file ∙ is_file in cc

      pub file_apart : is_named (chief ∷ nodes) file ≡ false
      file_apart = subst (λ (f : ℕ). is_named (chief ∷ nodes) f ≡ false) base_is base_apart

      pub files_are : file ∷ chief ∷ nodes ≡ free_files (files_of old) (old.layout.nodes + 2)
      files_are = subst (λ (f : ℕ). f ∷ chief ∷ nodes ≡ free_files (files_of old) (old.layout.nodes + 2)) base_is compact.files

      -- the old layout names none of them
      pub free : (n : ℕ) → is_named (files_of old) n ≡ true → is_named (file ∷ chief ∷ nodes) n ≡ false
      free = free_of_old (file ∷ chief ∷ nodes) files_are

      pub wider : (n : ℕ) → is_named (compact_files old) n ≡ false → is_named (file ∷ chief ∷ nodes) n ≡ false
      wider n out = subst (λ (files : List ℕ). is_named files n ≡ false) (sym files_are) (or_parts (0 == n) (is_named (free_files (files_of old) (old.layout.nodes + 2)) n) out).1
