-- Two lists of rows, merged from their ends, are one that rises and has the rows of both in each partition.
use Rattle.std.proofs.Common.{◌≡◌, ◌≢◌, Bool, true, false, cond, ◌⊎◌, ⊎_elim, List, [], ◌∷◌, ◌++◌, filter, reverse, Option, Some, None, refl, sym, ap, subst, ◌∙◌, append_assoc}
use Rattle.std.proofs.lemmas.List.{reverse-append}
use Rattle.std.specs.List.{AllByRecursion}
use Rattle.coco_ast.proofs.Lists.{all_left, all_weaker}
use Rattle.coco_bytes.specs.Lists.{FitInTurn}
use Rattle.coco_entry.specs.declared.prepared.Row.{Row}
use Rattle.coco_entry.specs.Rows.{RowRises}
use Rattle.coco_rebuild.specs.Sources.{EndsBelow, HaveOtherKeys, Interleaves, no_items, of_first, of_second}

-- ---- order

-- rows that end below one may stand before it
pub joined : (before : Option Row) (xs zs : List Row) (x : Row) → FitInTurn RowRises before xs → FitInTurn RowRises (Some x) zs → EndsBelow xs x → (xs ≡ [] → RowRises before x)
    → FitInTurn RowRises before (xs ++ x ∷ zs)
joined before [] zs x rise behind ends first = (first refl, behind)
joined before (y ∷ []) zs x rise behind ends first = (rise.0, (ends, behind))
joined before (y ∷ w ∷ xs) zs x rise behind ends first =
    (rise.0, joined (Some y) (w ∷ xs) zs x rise.1 behind ends (λ none. (let no : ◌≡◌ {A = List Row} (w ∷ xs) [] = none in cc)))

front : (before : Option Row) (xs ys : List Row) → FitInTurn RowRises before (xs ++ ys) → FitInTurn RowRises before xs
front before [] ys rise = tt
front before (x ∷ xs) ys rise = (rise.0, front (Some x) xs ys rise.1)

behind_one : (before : Option Row) (xs zs : List Row) (x : Row) → FitInTurn RowRises before (xs ++ x ∷ zs) → FitInTurn RowRises (Some x) zs
behind_one before [] zs x rise = rise.1
behind_one before (y ∷ xs) zs x rise = behind_one (Some y) xs zs x rise.1

-- what is left of two lists, and what was taken from their ends
pub record IsMerging (rows others rest more zs : List Row) : Type 0 where
  pub taken : List Row
  pub also : List Row
  pub rows_are : rows ≡ rest ++ taken
  pub others_are : others ≡ more ++ also
  pub both : Interleaves taken also zs
  pub rise : FitInTurn RowRises None (rest ++ zs)
  pub others_rise : FitInTurn RowRises None (more ++ zs)

no_rows : (xs : List Row) → xs ++ [] ≡ xs
no_rows [] = refl
no_rows (x ∷ xs) = ap (λ (l : List Row). x ∷ l) (no_rows xs)

pub merging_none : (rows others : List Row) → FitInTurn RowRises None rows → FitInTurn RowRises None others → IsMerging rows others rows others []
merging_none rows others rise also = record {
  taken = [];
  also = [];
  rows_are = sym (no_rows rows);
  others_are = sym (no_rows others);
  both = no_items;
  rise = subst (FitInTurn RowRises None) (sym (no_rows rows)) rise;
  others_rise = subst (FitInTurn RowRises None) (sym (no_rows others)) also;
}

module _ (rows others rest more zs : List Row) (x : Row) (was : IsMerging rows others (rest ++ x ∷ []) more zs) where
  whole : FitInTurn RowRises None (rest ++ x ∷ zs)
  whole = subst (FitInTurn RowRises None) (append_assoc rest (x ∷ []) zs) was.rise

  -- the last of the first list is taken, below which the other one ends
  pub merging_first : EndsBelow more x → IsMerging rows others rest more (x ∷ zs)
  merging_first ends = record {
    taken = x ∷ was.taken;
    also = was.also;
    rows_are = was.rows_are ∙ append_assoc rest (x ∷ []) was.taken;
    others_are = was.others_are;
    both = of_first was.both;
    rise = whole;
    others_rise = joined None more zs x (front None more zs was.others_rise) (behind_one None rest zs x whole) ends (λ none. tt);
  }

module _ (rows others rest more zs : List Row) (x : Row) (was : IsMerging rows others rest (more ++ x ∷ []) zs) where
  also_whole : FitInTurn RowRises None (more ++ x ∷ zs)
  also_whole = subst (FitInTurn RowRises None) (append_assoc more (x ∷ []) zs) was.others_rise

  -- and the same of the other list
  pub merging_second : EndsBelow rest x → IsMerging rows others rest more (x ∷ zs)
  merging_second ends = record {
    taken = was.taken;
    also = x ∷ was.also;
    rows_are = was.rows_are;
    others_are = was.others_are ∙ append_assoc more (x ∷ []) was.also;
    both = of_second was.both;
    rise = joined None rest zs x (front None rest zs was.rise) (behind_one None more zs x also_whole) ends (λ none. tt);
    others_rise = also_whole;
  }

-- the one or the other is taken
pub merging_more : (rows others were also rest more taken : List Row) (x : Row) → IsMerging rows others were also (reverse taken) → HaveOtherKeys were also
    → ((were ≡ rest ++ x ∷ []) × (more ≡ also) × EndsBelow also x) ⊎ ((also ≡ more ++ x ∷ []) × (rest ≡ were) × EndsBelow were x)
    → IsMerging rows others rest more (reverse (taken ++ x ∷ [])) × HaveOtherKeys rest more
merging_more rows others were also rest more taken x was apart last =
    let turned : reverse (taken ++ x ∷ []) ≡ x ∷ reverse taken = reverse-append taken (x ∷ []) in
    ⊎_elim
    (λ (f : (were ≡ rest ++ x ∷ []) × (more ≡ also) × EndsBelow also x). (let same : also ≡ more = sym f.1 in
    let before : IsMerging rows others (rest ++ x ∷ []) more (reverse taken) = subst (λ (l : List Row). IsMerging rows others l more (reverse taken)) f.0 (subst (λ (l : List Row). IsMerging rows others were l (reverse taken)) same was) in (
      subst (IsMerging rows others rest more) (sym turned) (merging_first rows others rest more (reverse taken) x before (subst (λ (l : List Row). EndsBelow l x) same f.2)),
      subst (HaveOtherKeys rest) same (all_left (λ (r : Row). AllByRecursion (λ (y : Row). r.key ≢ y.key) also) rest (x ∷ []) (subst (λ (l : List Row). HaveOtherKeys l also) f.0 apart)),
    )))
    (λ (f : (also ≡ more ++ x ∷ []) × (rest ≡ were) × EndsBelow were x). (let same : were ≡ rest = sym f.1 in
    let before : IsMerging rows others rest (more ++ x ∷ []) (reverse taken) = subst (λ (l : List Row). IsMerging rows others l (more ++ x ∷ []) (reverse taken)) same (subst (λ (l : List Row). IsMerging rows others were l (reverse taken)) f.0 was) in (
      subst (IsMerging rows others rest more) (sym turned) (merging_second rows others rest more (reverse taken) x before (subst (λ (l : List Row). EndsBelow l x) same f.2)),
      all_weaker (λ (r : Row). AllByRecursion (λ (y : Row). r.key ≢ y.key) (more ++ x ∷ [])) (λ (r : Row). AllByRecursion (λ (y : Row). r.key ≢ y.key) more)
          (λ r each. all_left (λ (y : Row). r.key ≢ y.key) more (x ∷ []) each) rest
          (subst (HaveOtherKeys rest) f.0 (subst (λ (l : List Row). HaveOtherKeys l also) same apart)),
    )))
    last

-- ---- what they have

module _ {A : Type 0} (test : A → Bool) where
  -- of items of which one list has none
  pub first_alone : (xs ys zs : List A) → Interleaves xs ys zs → filter test ys ≡ [] → filter test zs ≡ filter test xs
  first_alone xs ys zs no_items none = refl
  first_alone xs ys zs (of_first {xs = ps} {ys = qs} {zs = rs} {x = x} both) none = ap (λ (l : List A). cond (test x) (x ∷ l) l) (first_alone ps qs rs both none)
  first_alone xs ys zs (of_second {xs = ps} {ys = qs} {zs = rs} {y = y} both) none =
      elim (test y) as (λ b. test y ≡ b → cond b (y ∷ filter test qs) (filter test qs) ≡ [] → cond b (y ∷ filter test rs) (filter test rs) ≡ filter test ps) [
        | true ↦ λ t e. (let no : ◌≡◌ {A = List A} (y ∷ filter test qs) [] = e in cc)
        | false ↦ λ f e. first_alone ps qs rs both e
      ] refl none

  pub second_alone : (xs ys zs : List A) → Interleaves xs ys zs → filter test xs ≡ [] → filter test zs ≡ filter test ys
  second_alone xs ys zs no_items none = refl
  second_alone xs ys zs (of_second {xs = ps} {ys = qs} {zs = rs} {y = y} both) none = ap (λ (l : List A). cond (test y) (y ∷ l) l) (second_alone ps qs rs both none)
  second_alone xs ys zs (of_first {xs = ps} {ys = qs} {zs = rs} {x = x} both) none =
      elim (test x) as (λ b. test x ≡ b → cond b (x ∷ filter test ps) (filter test ps) ≡ [] → cond b (x ∷ filter test rs) (filter test rs) ≡ filter test qs) [
        | true ↦ λ t e. (let no : ◌≡◌ {A = List A} (x ∷ filter test ps) [] = e in cc)
        | false ↦ λ f e. second_alone ps qs rs both e
      ] refl none

module _ {A : Type 0} (P : A → Type 0) where
  pub all_of_both : (xs ys zs : List A) → Interleaves xs ys zs → AllByRecursion P xs → AllByRecursion P ys → AllByRecursion P zs
  all_of_both xs ys zs no_items here there = tt
  all_of_both xs ys zs (of_first {xs = ps} {ys = qs} {zs = rs} both) here there = (here.0, all_of_both ps qs rs both here.1 there)
  all_of_both xs ys zs (of_second {xs = ps} {ys = qs} {zs = rs} both) here there = (there.0, all_of_both ps qs rs both here there.1)
