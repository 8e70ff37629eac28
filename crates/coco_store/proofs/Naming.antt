-- The files that a layout names are all different.
use Rattle.std.proofs.Common.{◌≡◌, ◌≢◌, ℕ, zero, suc, ◌<◌, Bool, true, false, ◌||◌, List, [], ◌∷◌, ◌++◌, length, Option, Some, None, refl, sym, ap, subst, ◌∙◌, arith, ⊎_elim}
use Rattle.std.specs.Prelude.{slice_index, ◌==◌}
use Rattle.std.specs.Option.{option_to_list}
use Rattle.std.proofs.lemmas.Bool.{cases_lt, eq-eqb}
use Rattle.std.proofs.lemmas.Bool.Decides.{nat_tests}
use Rattle.std.proofs.lemmas.List.Folds.{list_any-append}
use Rattle.std.proofs.Math.Nat.{eq-or-lt_of_le}
use Rattle.coco_entry.specs.declared.layout.LayoutEntry.{LayoutEntry}
use Rattle.coco_entry.specs.Layouts.{AreNew, HasLater, IsLayout, is_named, named_by}
use Rattle.coco_log.proofs.Changing.{apart}
use Rattle.coco_store.specs.Entries.{files_of}

or_left : (a b : Bool) → a ≡ true → a || b ≡ true
or_left true b e = refl
or_left false b e = let no : false ≡ true = e in cc

or_right : (a b : Bool) → b ≡ true → a || b ≡ true
or_right true b e = refl
or_right false b e = e

neither_left : (a b : Bool) → a || b ≡ false → a ≡ false
neither_left true b e = e
neither_left false b e = refl

pub named_left : (xs ys : List ℕ) (f : ℕ) → is_named xs f ≡ true → is_named (xs ++ ys) f ≡ true
named_left xs ys f h = list_any-append (λ n. n == f) xs ys ∙ or_left (is_named xs f) (is_named ys f) h

named_right : (xs ys : List ℕ) (f : ℕ) → is_named ys f ≡ true → is_named (xs ++ ys) f ≡ true
named_right xs ys f h = list_any-append (λ n. n == f) xs ys ∙ or_right (is_named xs f) (is_named ys f) h

unnamed_left : (xs ys : List ℕ) (f : ℕ) → is_named (xs ++ ys) f ≡ false → is_named xs f ≡ false
unnamed_left xs ys f h = neither_left (is_named xs f) (is_named ys f) (sym (list_any-append (λ n. n == f) xs ys) ∙ h)

named_one : (xs : List ℕ) (f : ℕ) → is_named (f ∷ xs) f ≡ true
named_one xs f = or_left _ (is_named xs f) (eq-eqb f f refl)

pub named_at : (xs : List ℕ) (n : ℕ) → n < length xs → is_named xs (slice_index xs n) ≡ true
named_at [] n less = absurd (omega (arith, less))
named_at (x ∷ xs) zero less = named_one xs x
named_at (x ∷ xs) (suc n) less = or_right _ _ (named_at xs n (omega (arith, less)))

-- what was named is none of the new ones
pub unnamed_new : (named files : List ℕ) (f : ℕ) → AreNew named files → is_named named f ≡ true → is_named files f ≡ false
unnamed_new named [] f new is = refl
unnamed_new named (g ∷ files) f new is =
    let off : (g == f) ≡ false = (let other = apart named f g is new.0.1 in grind (arith, nat_tests)) in
    ap (λ (b : Bool). b || is_named files f) off ∙ unnamed_new (named ++ g ∷ []) files f new.1 (named_left named (g ∷ []) f is)

new_at : (named files : List ℕ) (n : ℕ) → AreNew named files → n < length files → is_named named (slice_index files n) ≡ false
new_at named [] n new less = absurd (omega (arith, less))
new_at named (f ∷ files) zero new less = new.0.1
new_at named (f ∷ files) (suc n) new less = unnamed_left named (f ∷ []) (slice_index files n) (new_at (named ++ f ∷ []) files n new.1 (omega (arith, less)))

new_apart : (named files : List ℕ) (i j : ℕ) → AreNew named files → i < j → j < length files → slice_index files i ≢ slice_index files j
new_apart named [] i j new less within = absurd (omega (arith, within))
new_apart named (f ∷ files) i zero new less within = absurd (omega (arith, less))
new_apart named (f ∷ files) zero (suc j) new less within =
    apart (named ++ f ∷ []) f (slice_index files j) (named_right named (f ∷ []) f (named_one [] f)) (new_at (named ++ f ∷ []) files j new.1 (omega (arith, within)))
new_apart named (f ∷ files) (suc i) (suc j) new less within = new_apart (named ++ f ∷ []) files i j new.1 (omega (arith, less)) (omega (arith, within))

-- a layout names its own file, the coordinator's, one of each node, and at most a base file, each under a number of its own
pub record NamesApart (entry : LayoutEntry) : Type 0 where
  pub own : is_named (files_of entry) 0 ≡ true
  pub chief : is_named (files_of entry) entry.layout.chief_file ≡ true
  pub node : (n : ℕ) → n < entry.layout.nodes → is_named (files_of entry) (slice_index entry.layout.node_files n) ≡ true
  pub base : (b : ℕ) → entry.base_file ≡ Some b → is_named (files_of entry) b ≡ true
  pub chief-own : 0 ≢ entry.layout.chief_file
  pub node-own : (n : ℕ) → n < entry.layout.nodes → 0 ≢ slice_index entry.layout.node_files n
  pub node-chief : (n : ℕ) → n < entry.layout.nodes → entry.layout.chief_file ≢ slice_index entry.layout.node_files n
  pub node-node : (m n : ℕ) → m < entry.layout.nodes → n < entry.layout.nodes → m ≢ n → slice_index entry.layout.node_files m ≢ slice_index entry.layout.node_files n
  pub base-own : (b : ℕ) → entry.base_file ≡ Some b → 0 ≢ b
  pub base-chief : (b : ℕ) → entry.base_file ≡ Some b → entry.layout.chief_file ≢ b
  pub base-node : (b n : ℕ) → entry.base_file ≡ Some b → n < entry.layout.nodes → slice_index entry.layout.node_files n ≢ b

-- the base file is a new one
new_base : (named : List ℕ) (keep o : Option ℕ) (b : ℕ) → HasLater named keep o → o ≡ Some b → is_named named b ≡ false
new_base named keep None b later e = let no : ◌≡◌ {A = Option ℕ} None (Some b) = e in cc
new_base named keep (Some file) b later e = let same : file ≡ b = cc in subst (λ (k : ℕ). is_named named k ≡ false) same later.2.1

pub names_apart : (entry : LayoutEntry) → IsLayout entry → NamesApart entry
names_apart entry is =
    let chief : ℕ = entry.layout.chief_file in
    let files : List ℕ = entry.layout.node_files in
    let all : List ℕ = named_by entry.layout in
    let more : List ℕ = option_to_list entry.base_file in
    let within : (n : ℕ) → n < entry.layout.nodes → n < length files = λ n less. (let count = is.fields.count in omega (arith, less, count)) in
    let here : (n : ℕ) → n < entry.layout.nodes → is_named all (slice_index files n) ≡ true = λ n less. named_right (0 ∷ chief ∷ []) files (slice_index files n) (named_at files n (within n less)) in
    let of_chief : is_named all chief ≡ true = or_right _ _ (named_one files chief) in
    record {
      own = refl;
      chief = named_left all more chief of_chief;
      node = λ n less. named_left all more (slice_index files n) (here n less);
      base = λ b e. named_right all more b (subst (λ (o : Option ℕ). is_named (option_to_list o) b ≡ true) (sym e) (named_one [] b));
      chief-own = apart (0 ∷ []) 0 chief refl is.fields.chief.1;
      node-own = λ n less. apart (0 ∷ chief ∷ []) 0 (slice_index files n) refl (new_at (0 ∷ chief ∷ []) files n is.fields.files (within n less));
      node-chief = λ n less. apart (0 ∷ chief ∷ []) chief (slice_index files n) (or_right _ _ (named_one [] chief)) (new_at (0 ∷ chief ∷ []) files n is.fields.files (within n less));
      node-node = λ m n one two other. by_order files is.fields.files m n (within m one) (within n two) other;
      base-own = λ b e. apart all 0 b refl (new_base all entry.keep entry.base_file b is.later e);
      base-chief = λ b e. apart all chief b of_chief (new_base all entry.keep entry.base_file b is.later e);
      base-node = λ b n e less. apart all (slice_index files n) b (here n less) (new_base all entry.keep entry.base_file b is.later e);
    }
  where
    by_order : (files : List ℕ) → AreNew (0 ∷ entry.layout.chief_file ∷ []) files → (m n : ℕ) → m < length files → n < length files → m ≢ n → slice_index files m ≢ slice_index files n
    by_order files new m n one two other =
        ⊎_elim (λ less. new_apart (0 ∷ entry.layout.chief_file ∷ []) files m n new less two)
        (λ le. ⊎_elim (λ same e. other (sym same)) (λ less e. new_apart (0 ∷ entry.layout.chief_file ∷ []) files n m new less one (sym e)) (eq-or-lt_of_le le)) (cases_lt m n)
