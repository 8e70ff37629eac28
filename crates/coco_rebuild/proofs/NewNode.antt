-- A layout with another file for a node is one, and that file is none that it named.
use Rattle.std.proofs.Common.{◌≡◌, ℕ, zero, suc, ◌+◌, ◌<◌, ◌≤◌, ◌^◌, ◌==◌, ◌||◌, Bool, true, false, List, [], ◌∷◌, ◌++◌, length, set, Option, None, Some, refl, sym, ◌∙◌, arith, length-append}
use Rattle.std.specs.Prelude.{slice_index}
use Rattle.std.specs.Option.{option_to_list}
use Rattle.std.proofs.lemmas.Bool.{eq-eqb, eqb-true, ne_eqb, or_from, or_left, or_parts, or_right}
use Rattle.std.proofs.lemmas.List.{length-set}
use Rattle.std.proofs.lemmas.List.Folds.{list_any-append}
use Rattle.coco_entry.specs.declared.layout.LayoutEntry.{LayoutEntry}
use Rattle.coco_entry.specs.Layouts.{AreNew, HasFields, HasLater, IsLayout, IsNew, is_named, named_by}
use Rattle.coco_log.proofs.Changing.{apart}
use Rattle.coco_make.specs.Free.{free_files}
use Rattle.coco_make.proofs.FreeLemmas.{free_are_new, length-free_files}
use Rattle.coco_store.specs.Entries.{files_of}
use Rattle.coco_store.specs.Rules.{IsWithinLimits}
use Rattle.coco_rebuild.specs.Rebuilding.{new_file, rebuilt_layout}
use Rattle.coco_rebuild.proofs.Grouping.{or_either}

-- ---- names

named_first : (file : ℕ) (files : List ℕ) → is_named (file ∷ files) file ≡ true
named_first file files = or_left (file == file) (is_named files file) (eq-eqb file file refl)

not_named : (b : Bool) → (b ≡ true → false ≡ true) → b ≡ false
not_named true denied = sym (denied refl)
not_named false denied = refl

unnamed_parts : (xs ys : List ℕ) (f : ℕ) → is_named (xs ++ ys) f ≡ false → (is_named xs f ≡ false) × (is_named ys f ≡ false)
unnamed_parts xs ys f none = or_parts (is_named xs f) (is_named ys f) (sym (list_any-append (λ n. n == f) xs ys) ∙ none)

named_push : (named : List ℕ) (x f : ℕ) → is_named (named ++ x ∷ []) f ≡ is_named named f || ((x == f) || false)
named_push named x f = list_any-append (λ n. n == f) named (x ∷ [])

-- what is new behind some files is so behind others that name none of these more
new_behind : (some other files : List ℕ) → ((n : ℕ) → is_named files n ≡ true → is_named other n ≡ true → is_named some n ≡ true) → AreNew some files → AreNew other files
new_behind some other [] sub new = tt
new_behind some other (g ∷ gs) sub new = (
  (new.0.0, not_named (is_named other g) (λ is. sym new.0.1 ∙ sub g (named_first g gs) is)),
  new_behind (some ++ g ∷ []) (other ++ g ∷ []) gs (λ n in_rest is.
      named_push some g n
      ∙ or_either (is_named other n) ((g == n) || false) (is_named some n || ((g == n) || false) ≡ true)
      (λ one. or_left (is_named some n) ((g == n) || false) (sub n (or_right (g == n) (is_named gs n) in_rest) one))
      (λ one. or_right (is_named some n) ((g == n) || false) one)
      (sym (named_push other g n) ∙ is)) new.1,
)

this : (f n : ℕ) → (f == n) || false ≡ true → f ≡ n
this f n is = or_either (f == n) false (f ≡ n) (λ one. eqb-true f n one) (λ no. let two : false ≡ true = no in cc) is

-- a new one in the place of one of them
set_new : (named xs : List ℕ) (i f : ℕ) → f < 2 ^ 32 → is_named named f ≡ false → is_named xs f ≡ false → AreNew named xs → AreNew named (set xs i f)
set_new named [] i f small off none new = tt
set_new named (x ∷ xs) zero f small off none new = (
  (small, off),
  new_behind (named ++ x ∷ []) (named ++ f ∷ []) xs (λ n in_rest is.
      or_either (is_named named n) ((f == n) || false) (is_named (named ++ x ∷ []) n ≡ true)
      (λ one. named_push named x n ∙ or_left (is_named named n) ((x == n) || false) one)
      (λ one. absurd (apart xs n f in_rest (or_parts (x == f) (is_named xs f) none).1 (sym (this f n one))))
      (sym (named_push named f n) ∙ is)) new.1,
)
set_new named (x ∷ xs) (suc i) f small off none new =
    let parts = or_parts (x == f) (is_named xs f) none in
    (new.0, set_new (named ++ x ∷ []) xs i f small (named_push named x f ∙ or_from (is_named named f) ((x == f) || false) off (or_from (x == f) false parts.0 refl)) parts.1 new.1)

set_unnamed : (xs : List ℕ) (i f n : ℕ) → (f == n) ≡ false → is_named xs n ≡ false → is_named (set xs i f) n ≡ false
set_unnamed [] i f n off none = refl
set_unnamed (x ∷ xs) zero f n off none = or_from (f == n) (is_named xs n) off (or_parts (x == n) (is_named xs n) none).1
set_unnamed (x ∷ xs) (suc i) f n off none = let parts = or_parts (x == n) (is_named xs n) none in or_from (x == n) (is_named (set xs i f) n) parts.0 (set_unnamed xs i f n off parts.1)

first_new : (named xs : List ℕ) → length xs ≡ 1 → AreNew named xs → IsNew named (slice_index xs 0)
first_new named [] one new = absurd (omega (arith, one))
first_new named (x ∷ xs) one new = new.0

later_still : (named other : List ℕ) (keep o : Option ℕ) → ((b : ℕ) → o ≡ Some b → IsNew named b → IsNew other b) → HasLater named keep o → HasLater other keep o
later_still named other keep (Some b) still later = (later.0, later.1, still b refl later.2)
later_still named other (Some keep) None still later = later
later_still named other None None still later = tt

module _ (node : ℕ) (old : LayoutEntry) (is : IsLayout old) (limits : IsWithinLimits old) where
  abbrev file : ℕ
  file = new_file old

  few_files : length (files_of old) ≤ old.layout.nodes + 3
  few_files = few old.base_file
    where
      few : (o : Option ℕ) → length (named_by old.layout ++ option_to_list o) ≤ old.layout.nodes + 3
      few None = omega (arith, length-append (named_by old.layout) [], is.fields.count)
      few (Some b) = omega (arith, length-append (named_by old.layout) (b ∷ []), is.fields.count)

  pub is_new : IsNew (files_of old) file
  is_new =
      let most : old.layout.nodes ≤ 8 = limits.nodes.1 in
      first_new (files_of old) (free_files (files_of old) 1) (length-free_files (files_of old) 1) (free_are_new (files_of old) 1 (omega (arith, few_files, most)))

  of_layout : is_named (named_by old.layout) file ≡ false
  of_layout = (unnamed_parts (named_by old.layout) (option_to_list old.base_file) file is_new.1).0

  of_base : is_named (option_to_list old.base_file) file ≡ false
  of_base = (unnamed_parts (named_by old.layout) (option_to_list old.base_file) file is_new.1).1

  pub of_nodes : is_named old.layout.node_files file ≡ false
  of_nodes = (or_parts (old.layout.chief_file == file) (is_named old.layout.node_files file) (or_parts (0 == file) _ of_layout).1).1

  of_others : is_named (0 ∷ old.layout.chief_file ∷ []) file ≡ false
  of_others =
      let rest = or_parts (0 == file) (is_named (old.layout.chief_file ∷ old.layout.node_files) file) of_layout in
      or_from (0 == file) (is_named (old.layout.chief_file ∷ []) file) rest.0 (or_from (old.layout.chief_file == file) false (or_parts (old.layout.chief_file == file) (is_named old.layout.node_files file) rest.1).0 refl)

  -- no file of the old layout is the new one
  pub none_of_old : (n : ℕ) → is_named (files_of old) n ≡ true → is_named (file ∷ []) n ≡ false
  none_of_old n named = or_from (file == n) false (ne_eqb file n (λ same. apart (files_of old) n file named is_new.1 (sym same))) refl

  fields : HasFields (rebuilt_layout node old).layout
  fields =
      let was = is.fields in
      record {
        nodes = was.nodes;
        partitions = was.partitions;
        copies = was.copies;
        chief = was.chief;
        count = length-set old.layout.node_files node file ∙ was.count;
        files = set_new (0 ∷ old.layout.chief_file ∷ []) old.layout.node_files node file is_new.0 of_others of_nodes was.files;
        base_epoch = was.base_epoch;
        text = was.text;
      }

  base_off : (o : Option ℕ) (b : ℕ) → o ≡ Some b → is_named (option_to_list o) file ≡ false → (file == b) ≡ false
  base_off None b e none = let no : ◌≡◌ {A = Option ℕ} None (Some b) = e in cc
  base_off (Some x) b e none =
      let same : x ≡ b = cc in
      ne_eqb file b (λ two. apart (x ∷ []) x file (named_first x []) none (same ∙ sym two))

  base_still : (b : ℕ) → old.base_file ≡ Some b → IsNew (named_by old.layout) b → IsNew (named_by (rebuilt_layout node old).layout) b
  base_still b e new =
      let one = or_parts (0 == b) (is_named (old.layout.chief_file ∷ old.layout.node_files) b) new.1 in
      let two = or_parts (old.layout.chief_file == b) (is_named old.layout.node_files b) one.1 in
      (new.0, or_from (0 == b) _ one.0 (or_from (old.layout.chief_file == b) _ two.0 (set_unnamed old.layout.node_files node file b (base_off old.base_file b e of_base) two.1)))

  pub is_layout : IsLayout (rebuilt_layout node old)
  is_layout = record { fields = fields; later = later_still (named_by old.layout) (named_by (rebuilt_layout node old).layout) old.keep old.base_file base_still is.later }

  pub within_limits : IsWithinLimits (rebuilt_layout node old)
  within_limits = record { nodes = limits.nodes; partitions = limits.partitions; copies = limits.copies; base_epoch = limits.base_epoch; keep = limits.keep }
